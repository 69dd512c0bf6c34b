use Rattle.peer_core.specs.Others.{AreCleared}
use Rattle.peer_core.proofs.others.Others.clear.Given as goal

abbrev pub invariant-loop-player : goal.invariant-loop-player
invariant-loop-player l = AreCleared l.session l.me l.player l.self
