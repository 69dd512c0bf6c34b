use Rattle.std.proofs.Common.{◌≡◌, ◌++◌, map, take, drop}
use Rattle.socket_lines.specs.Seats as S
use Rattle.socket_table.proofs.polling.rest_all.Given as goal

abbrev pub invariant-loop-seat : goal.invariant-loop-seat
invariant-loop-seat l = l.seats ≡ map S.rests (take l.seat-index l.initial.seats) ++ drop l.seat-index l.initial.seats
