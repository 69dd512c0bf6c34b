use Rattle.std.proofs.Common.{length}
use Rattle.frame_index.proofs.common.+commit_spots.Given as goal

abbrev pub decreases-commit_spots : goal.decreases-commit_spots
decreases-commit_spots l = length l.kept.now
