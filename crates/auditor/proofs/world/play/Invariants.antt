use Rattle.std.proofs.Common.{◌≡◌, length, map}
use Rattle.definitions.specs.World.{players_of}
use Rattle.playout.specs.Lockstep.{AreLegalMoves}
use Rattle.playout.specs.Playing.{IsLockstep}
use Rattle.auditor.specs.Played.{AreOpen}
use Rattle.auditor.proofs.world.play.Given as goal

abbrev pub invariant-loop-turn : goal.invariant-loop-turn
invariant-loop-turn l = record {
  players : length l.playout.standings ≡ players_of l.session;
  turns : l.playout.turns ≡ l.turn;
  opens : AreOpen l.session l.playout;
  lockstep : AreLegalMoves l.session (map (λ own. own.items) l.moves) l.session.turns → IsLockstep l.session (map (λ own. own.items) l.moves) l.playout;
}
