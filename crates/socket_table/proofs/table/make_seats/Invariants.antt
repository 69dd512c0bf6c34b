use Rattle.std.proofs.Common.{◌≡◌, map, take}
use Rattle.socket_lines.specs.Seats.{new_seat}
use Rattle.socket_table.proofs.table.make_seats.Given as goal

abbrev pub invariant-loop-link : goal.invariant-loop-link
invariant-loop-link l = l.seats.items ≡ map (new_seat l.most) (take l.link-index l.links)
