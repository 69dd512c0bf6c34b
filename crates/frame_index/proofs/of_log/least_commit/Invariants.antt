use Rattle.std.proofs.Common.{◌≡◌, None, drop}
use Rattle.definitions.specs.Held as H
use Rattle.frame_index.specs.InLog as N
use Rattle.frame_index.specs.Kept as K
use Rattle.frame_index.specs.Wants as W
use Rattle.frame_index.proofs.of_log.least_commit.Given as goal

abbrev pub invariant-loop-one : goal.invariant-loop-one
invariant-loop-one l = W.least_from (N.takes (H.commit_of l.turn) l.log) l.best (K.seen_in (drop l.one-index l.kept)) ≡ W.least_from (N.takes (H.commit_of l.turn) l.log) None (K.seen_in l.kept)
