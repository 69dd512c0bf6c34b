use Rattle.lethwyrn_c.proofs.Marks.{advance_grows, marks_stay}
use Rattle.lethwyrn_c.proofs.seat.Seat.advance.Goals as goal

pub invariant_of-self : goal.invariant_of-self
invariant_of-self c = marks_stay c.self.inside.peer c.advance-progress.new.self c.self.inside.given c.self.inside.ahead c.self.inside.stored _ c.advance-progress.ensures.log (advance_grows _ _ _) c.self.invariant
