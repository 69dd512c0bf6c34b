use Rattle.lethwyrn_c.proofs.Marks.{got_grows, marks_stay}
use Rattle.lethwyrn_c.proofs.seat.Seat.take.Goals as goal

pub invariant_of-self : goal.invariant_of-self
invariant_of-self c = marks_stay c.self.inside.peer c.got.new.self c.self.inside.given c.self.inside.ahead c.self.inside.stored _ c.got.ensures.log (got_grows _ _ _ _ c.in-Whole-Turn.frame) c.self.invariant
