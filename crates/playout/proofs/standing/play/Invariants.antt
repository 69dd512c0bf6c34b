use Rattle.std.proofs.Common.{◌≡◌, ◌++◌, take, drop}
use Rattle.playout.specs.Playing.{all_after}
use Rattle.playout.proofs.standing.play.Given as goal

abbrev pub invariant-loop-player : goal.invariant-loop-player
invariant-loop-player l = record {
  all : take l.player l.standings ++ all_after l.session l.moves l.player (drop l.player l.standings) ≡ all_after l.session l.moves 0 l.fn.standings;
  rest : drop l.player l.standings ≡ drop l.player l.fn.standings;
}
