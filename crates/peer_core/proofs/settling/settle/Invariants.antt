use Rattle.std.proofs.Common.{◌≡◌}
use Rattle.peer_core.specs.Others.{AreOthers}
use Rattle.peer_core.specs.Settling.{IsCounting}
use Rattle.peer_core.proofs.settling.settle.Given as goal

abbrev pub invariant-loop-turn : goal.invariant-loop-turn
invariant-loop-turn l = record {
  counting : IsCounting l.session l.me l.entries l.settling;
  turns : l.settling.turns ≡ l.turn;
  others : AreOthers l.session l.me l.entries l.others;
}
