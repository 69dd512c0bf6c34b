use Rattle.std.proofs.Common.{◌∙◌, ap, sym, ℕ}
use Rattle.definitions.specs.Places.{slot_at}
use Rattle.grid_world.proofs.Reveals.{ahead_least}
use Rattle.peer_core.proofs.Counted.{settled_by_needs, settled_by_others}
use Rattle.peer_core.proofs.settling.is_settled.Goals as goal

pub returns-then-waits_for-clause-settled : goal.returns-then-waits_for-clause-settled
returns-then-waits_for-clause-settled c =
    c.requires.no_needs
    ∙ settled_by_needs c.args.session.now c.args.me c.args.turn c.args.entries.now (ahead_least c.args.session.now c.facts.ensures) c.requires.honest c.requires.revealed
    (ap (λ (n : ℕ). slot_at c.args.session.now n) (sym c.requires.made) ∙ c.waits_for.ensures c.if-waits_for.true)

pub returns-else-waits_for-clause-settled : goal.returns-else-waits_for-clause-settled
returns-else-waits_for-clause-settled c =
    c.let_on.ensures.lets ∙ settled_by_others c.args.session.now c.args.me c.args.turn c.args.entries.now (ahead_least c.args.session.now c.facts.ensures) c.requires.honest c.requires.revealed
