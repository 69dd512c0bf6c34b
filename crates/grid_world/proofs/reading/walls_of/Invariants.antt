use Rattle.std.proofs.Common.{None, length}
use Rattle.text_lines.specs.Lines.{ended_lines_of}
use Rattle.grid_world.specs.Reading.{walls_at}
use Rattle.grid_world.specs.Parts.{bare}
use Rattle.grid_world.specs.Sessions.{starts_of}
use Rattle.grid_world.proofs.Loops.{AtWall}
use Rattle.grid_world.proofs.reading.walls_of.Given as goal

abbrev pub invariant-loop-rest : goal.invariant-loop-rest
invariant-loop-rest l =
    AtWall (bare l.sides) (starts_of l.seats) l.walls.items l.before l.first l.n (ended_lines_of l.rest) (walls_at (bare l.sides) (starts_of l.seats) (ended_lines_of l.text) None l.first)

abbrev pub decreases-loop-rest : goal.decreases-loop-rest
decreases-loop-rest l = length l.rest
