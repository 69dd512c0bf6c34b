use Rattle.std.proofs.Common.{take}
use Rattle.peer_core.specs.Others.{AreOthers}
use Rattle.peer_core.proofs.cutting.hear_all.Given as goal

abbrev pub invariant-loop-at : goal.invariant-loop-at
invariant-loop-at l = AreOthers l.session l.me (take l.at l.entries) l.others
