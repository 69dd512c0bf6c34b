use Rattle.std.proofs.Common.{◌-◌}
use Rattle.lethwyrn_c.specs.Sending.{IsStoredSoFar}
use Rattle.lethwyrn_c.proofs.seat.Seat.store.Given as goal

abbrev pub invariant-loop : goal.invariant-loop
invariant-loop l = IsStoredSoFar l.bytes l.initial.self l.self

abbrev pub decreases-loop : goal.decreases-loop
decreases-loop l = l.self.given - l.self.stored
