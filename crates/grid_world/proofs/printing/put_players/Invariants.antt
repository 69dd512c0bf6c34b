use Rattle.std.proofs.Common.{◌≡◌, ◌++◌, drop}
use Rattle.text_lines.specs.Lines.{joined}
use Rattle.grid_world.specs.Text.{player_lines}
use Rattle.grid_world.proofs.printing.put_players.Given as goal

abbrev pub invariant-loop-player : goal.invariant-loop-player
invariant-loop-player l = l.out.items ++ joined (player_lines l.session.rules (drop l.player l.session.seats) l.player) ≡ l.initial.out.items ++ joined (player_lines l.session.rules l.session.seats 0)
