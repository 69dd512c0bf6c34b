use Rattle.std.proofs.Common.{length, ◌≡◌}
use Rattle.agreed_turns.proofs.Started.{AreStarted}
use Rattle.agreed_turns.proofs.agreed.AgreedTurns.new.Given as goal

abbrev pub invariant-loop-player : goal.invariant-loop-player
invariant-loop-player l = record {
  many : length l.players.items ≡ l.player;
  each : AreStarted l.session l.players.items;
}
