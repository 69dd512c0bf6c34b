use Rattle.std.proofs.Common.{None, Some, ap, sym, ◌∙◌, ◌≡◌}
use Rattle.auditor.specs.declared.turns.Resolved.{Resolved}
use Rattle.definitions.specs.Logs.{move_shown}
use Rattle.auditor.proofs.Moved.{resolved, unresolved}
use Rattle.auditor.proofs.agreed.move_in.Goals as goal

pub returns-then-after-turn : goal.returns-then-after-turn
returns-then-after-turn c = λ logs h keeps there up past.
    unresolved c.args.session.now c.args.player c.args.turn h c.args.before.now c.args.after.now c.facts.ensures c.requires.player up past c.if-after-turn.true

pub returns-in_err-resolved : goal.returns-in_err-resolved
returns-in_err-resolved c = λ logs h keeps there up past.
    let r = resolved c.args.session.now c.args.player c.args.turn h c.args.before.now c.args.after.now c.facts.ensures c.requires.player up past logs c.args.log c.args.seen.now keeps there c.if-after-turn.false in
    absurd (let none : None ≡ Some r.0 = sym c.in_err-resolved.was ∙ c.resolved_in.ensures ∙ r.1 in cc)

pub returns : goal.returns
returns c = λ logs h keeps there up past.
    let r = resolved c.args.session.now c.args.player c.args.turn h c.args.before.now c.args.after.now c.facts.ensures c.requires.player up past logs c.args.log c.args.seen.now keeps there c.if-after-turn.false in
    let one : Some c.in_ok-resolved.resolved ≡ Some r.0 = sym c.in_ok-resolved.was ∙ c.resolved_in.ensures ∙ r.1 in
    let same : c.in_ok-resolved.resolved ≡ r.0 = cc in
    c.shown.ensures ∙ ap (λ (x : Resolved). move_shown x.reveal) same ∙ r.2
