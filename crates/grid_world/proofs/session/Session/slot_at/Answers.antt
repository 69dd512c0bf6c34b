use Rattle.std.proofs.Common.{◌∙◌, sym, arith}
use Rattle.definitions.proofs.Slots.{slot_of_commit, slot_of_reveal}
use Rattle.definitions.proofs.Streams.{slot_at-past}
use Rattle.grid_world.proofs.session.Session.slot_at.Goals as goal

pub returns-then-place-ahead : goal.returns-then-place-ahead
returns-then-place-ahead c = c.commitment_of.ensures ∙ sym (slot_of_commit c.args.self.now _ c.args.place (omega arith) (omega arith) (omega arith))

pub returns-then-place-turns : goal.returns-then-place-turns
returns-then-place-turns c = sym (slot_at-past c.args.self.now c.args.place (omega arith) (omega arith))

pub returns-then-place-turns-2 : goal.returns-then-place-turns-2
returns-then-place-turns-2 c = c.reveal_of.ensures ∙ sym (slot_of_reveal c.args.self.now _ c.args.place (omega arith) (omega arith) (omega arith))

pub returns-then-place-ahead-eq0 : goal.returns-then-place-ahead-eq0
returns-then-place-ahead-eq0 c = c.reveal_of-then-place-ahead-eq0.ensures ∙ sym (slot_of_reveal c.args.self.now _ c.args.place (omega arith) (omega arith) (omega arith))

pub returns-else-place-ahead-eq0 : goal.returns-else-place-ahead-eq0
returns-else-place-ahead-eq0 c = c.commitment_of-else-place-ahead-eq0.ensures ∙ sym (slot_of_commit c.args.self.now _ c.args.place (omega arith) (omega arith) (omega arith))
