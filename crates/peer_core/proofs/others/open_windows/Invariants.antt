use Rattle.peer_core.proofs.Tables.{AreOpening}
use Rattle.peer_core.proofs.others.open_windows.Given as goal

abbrev pub invariant-loop-player : goal.invariant-loop-player
invariant-loop-player l = AreOpening l.session l.player l.windows.items
