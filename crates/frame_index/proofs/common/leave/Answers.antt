use Rattle.std.proofs.Common.{arith, refl}
use Rattle.frame_index.proofs.Leaving.{left_none}
use Rattle.frame_index.proofs.common.leave.Goals as goal

pub loop-spot-init : goal.loop-spot-init
loop-spot-init c = left_none c.args.chosen.now _ (omega arith) refl
