use Rattle.std.proofs.Common.{length, ◌≡◌}
use Rattle.agreed_turns.proofs.Started.{AreAtStart}
use Rattle.agreed_turns.proofs.turns.PlayerTurns.new.Given as goal

abbrev pub invariant-loop : goal.invariant-loop
invariant-loop l = record {
  many : length l.heads.items ≡ l.counter;
  start : AreAtStart l.session l.player l.heads.items;
}
