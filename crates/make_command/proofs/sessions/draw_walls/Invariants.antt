use Rattle.std.proofs.Common.{◌≡◌}
use Rattle.make_command.specs.Making.{walls_of}
use Rattle.make_command.proofs.sessions.draw_walls.Given as goal

abbrev pub invariant-loop-place : goal.invariant-loop-place
invariant-loop-place l = (l.walls.items, l.chance) ≡ walls_of l.place l.initial.chance
