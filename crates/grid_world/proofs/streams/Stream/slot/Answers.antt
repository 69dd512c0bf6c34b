use Rattle.std.proofs.Common.{arith, ◌∙◌}
use Rattle.grid_world.proofs.NextSlots.{next_commit, next_end, next_reveal, slot_in_order}
use Rattle.grid_world.proofs.streams.Stream.slot.Goals as goal

pub returns-then-self-min-clause-place : goal.returns-then-self-min-clause-place
returns-then-self-min-clause-place c = λ order. c.commitment_of.ensures ∙ next_commit c.args.session.now c.args.self.now (omega arith) ∙ slot_in_order c.args.session.now c.args.self.now c.facts.ensures order

pub returns-then-self-turns-clause-place : goal.returns-then-self-turns-clause-place
returns-then-self-turns-clause-place c = λ order. c.reveal_of.ensures ∙ next_reveal c.args.session.now c.args.self.now (omega arith) (omega arith) ∙ slot_in_order c.args.session.now c.args.self.now c.facts.ensures order

pub returns-else-self-turns-clause-place : goal.returns-else-self-turns-clause-place
returns-else-self-turns-clause-place c = λ order. next_end c.args.session.now c.args.self.now (omega arith) (omega arith) ∙ slot_in_order c.args.session.now c.args.self.now c.facts.ensures order
