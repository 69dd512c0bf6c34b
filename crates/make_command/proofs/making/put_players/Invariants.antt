use Rattle.std.proofs.Common.{◌≡◌, drop}
use Rattle.line_io.specs.Texts.{Underway}
use Rattle.make_command.specs.Make.{player_lines}
use Rattle.make_command.proofs.making.put_players.Given as goal

abbrev pub invariant-lines : goal.invariant-lines
invariant-lines g l = record {
  player : l.player ≡ l.line-index;
  rest : Underway (g.O.Sink.state l.initial.out) (g.O.Sink.state l.out) (player_lines 0 l.lines) (player_lines l.player (drop l.line-index l.lines));
}
