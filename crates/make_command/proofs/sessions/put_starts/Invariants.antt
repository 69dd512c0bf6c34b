use Rattle.std.proofs.Common.{◌≡◌, ◌++◌, drop, map}
use Rattle.text_lines.specs.Lines.{joined}
use Rattle.grid_world.specs.Text.{player_lines}
use Rattle.make_command.specs.Making.{made_rules, seat_at}
use Rattle.make_command.proofs.sessions.put_starts.Given as goal

abbrev pub invariant-loop-player : goal.invariant-loop-player
invariant-loop-player l = l.out.items ++ joined (player_lines made_rules (map seat_at (drop l.player l.starts)) l.player) ≡ l.initial.out.items ++ joined (player_lines made_rules (map seat_at l.starts) 0)
