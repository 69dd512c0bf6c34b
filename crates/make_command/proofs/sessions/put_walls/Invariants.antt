use Rattle.std.proofs.Common.{◌≡◌, ◌++◌, drop, map}
use Rattle.text_lines.specs.Lines.{joined}
use Rattle.grid_world.specs.Text.{wall_line}
use Rattle.make_command.proofs.sessions.put_walls.Given as goal

abbrev pub invariant-loop-wall : goal.invariant-loop-wall
invariant-loop-wall l = l.out.items ++ joined (map wall_line (drop l.wall-index l.walls)) ≡ l.initial.out.items ++ joined (map wall_line l.walls)
