use Rattle.std.proofs.Common.{◌≡◌, take, length}
use Rattle.definitions.specs.World.{players_of}
use Rattle.playout.proofs.Standings.{first_seated}
use Rattle.playout.proofs.standing.reseat.Given as goal

abbrev pub invariant-loop-player : goal.invariant-loop-player
invariant-loop-player l = record {
  long : length l.standings ≡ players_of l.session;
  seated : take l.player l.standings ≡ first_seated l.session l.player;
}
