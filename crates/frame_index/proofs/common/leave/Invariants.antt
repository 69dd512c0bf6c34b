use Rattle.std.proofs.Common.{take}
use Rattle.frame_index.proofs.Leaving.{LeftBy}
use Rattle.frame_index.proofs.common.leave.Given as goal

abbrev pub invariant-loop-spot : goal.invariant-loop-spot
invariant-loop-spot l = LeftBy l.initial.chosen (take l.spot-index l.spots) l.left
