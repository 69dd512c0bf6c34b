use Rattle.std.proofs.Common.{ap, arith, length}
use Rattle.lethwyrn_c.proofs.Marks.{entry_taken, given_on}
use Rattle.lethwyrn_c.proofs.seat.Seat.take_log.Goals as goal

pub invariant_of-self : goal.invariant_of-self
invariant_of-self c = given_on c.self.inside.peer c.entries-2.result.now c.self.inside.given c.step.new.self c.self.inside.ahead c.self.inside.stored _ c.entries-2.ensures c.step.ensures.goes_on c.step.ensures.entries c.self.invariant

pub returns-clause-taken : goal.returns-clause-taken
returns-clause-taken c =
    let a = ap length c.entries.ensures in
    let b = ap length c.entries-2.ensures in
    λ ok. entry_taken c.args.self.now c.self.inside.peer c.self.inside.links c.entries-2.result.now c.self.inside.given c.step.new.self c.self.inside.ahead c.self.inside.stored c.self.inside.sent _
    c.self.view_is c.entries-2.ensures (omega arith) c.step.ensures.goes_on c.step.ensures.entries c.self.invariant
