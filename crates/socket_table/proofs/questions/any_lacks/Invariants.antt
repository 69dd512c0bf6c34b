use Rattle.std.proofs.Common.{◌≡◌, drop}
use Rattle.std.specs.List.{list_any}
use Rattle.socket_lines.specs.Seats as S
use Rattle.socket_table.proofs.questions.any_lacks.Given as goal

abbrev pub invariant-loop-seat : goal.invariant-loop-seat
invariant-loop-seat l = list_any (S.lacks l.made) l.seats ≡ list_any (S.lacks l.made) (drop l.seat-index l.seats)
