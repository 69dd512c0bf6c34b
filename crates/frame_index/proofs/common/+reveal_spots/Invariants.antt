use Rattle.std.proofs.Common.{length}
use Rattle.frame_index.proofs.common.+reveal_spots.Given as goal

abbrev pub decreases-reveal_spots : goal.decreases-reveal_spots
decreases-reveal_spots l = length l.kept.now
