use Rattle.std.proofs.Common.{◌≡◌, drop, ◌==◌}
use Rattle.std.specs.Prelude.{find}
use Rattle.ready_loop.proofs.counts.spent_among.Given as goal

abbrev pub invariant-loop-seat : goal.invariant-loop-seat
invariant-loop-seat l = find (λ c. c.link.player == l.player) l.seats ≡ find (λ c. c.link.player == l.player) (drop l.seat-index l.seats)
