use Rattle.std.proofs.Common.{ℕ, ◌<◌}
use Rattle.definitions.specs.Moves.{IsLegal}
use Rattle.playout.specs.Hits.{move_of}
use Rattle.playout.specs.Playing.{standing_of}
use Rattle.auditor.proofs.world.are_legal.Given as goal

abbrev pub invariant-loop-player : goal.invariant-loop-player
invariant-loop-player l = record {
  legal : (q : ℕ) → q < l.player → IsLegal l.session q (standing_of l.playout q).track (move_of l.moves q);
}
