use Rattle.std.proofs.Common.{length}
use Rattle.frame_index.proofs.plain.+move_in.Given as goal

abbrev pub decreases-move_in : goal.decreases-move_in
decreases-move_in l = length l.kept.now
