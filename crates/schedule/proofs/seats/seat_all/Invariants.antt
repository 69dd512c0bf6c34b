use Rattle.std.proofs.Common.{◌≡◌}
use Rattle.std.specs.Prelude.{map}
use Rattle.std.specs.List.{range_with_len}
use Rattle.schedule.specs.Seats.{first_seat}
use Rattle.schedule.proofs.seats.seat_all.Given as goal

abbrev pub invariant-loop-player : goal.invariant-loop-player
invariant-loop-player l = l.seats.items ≡ map (first_seat l.session l.hostile) (range_with_len 0 l.player)
