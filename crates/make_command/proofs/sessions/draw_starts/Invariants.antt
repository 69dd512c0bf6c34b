use Rattle.std.proofs.Common.{◌≡◌}
use Rattle.make_command.specs.Making.{starts_of}
use Rattle.make_command.proofs.sessions.draw_starts.Given as goal

abbrev pub invariant-loop-player : goal.invariant-loop-player
invariant-loop-player l = (l.starts.items, l.chance) ≡ starts_of l.walls l.player l.initial.chance
