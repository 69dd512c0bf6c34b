use Rattle.std.proofs.Common.{◌≡◌, ◌-◌}
use Rattle.text_lines.specs.Lines.{ended_lines_of}
use Rattle.grid_world.specs.Reading.{seats_at}
use Rattle.grid_world.specs.Parts.{head_of}
use Rattle.grid_world.proofs.Loops.{with_seats}
use Rattle.grid_world.proofs.reading.seats_of.Given as goal

abbrev pub invariant-loop-player : goal.invariant-loop-player
invariant-loop-player l =
    with_seats l.seats.items (seats_at (head_of l.head) (l.head.players - l.player) l.player (ended_lines_of l.rest)) ≡ seats_at (head_of l.head) l.head.players 0 (ended_lines_of l.text)
