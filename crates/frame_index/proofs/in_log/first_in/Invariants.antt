use Rattle.std.proofs.Common.{◌≡◌, None, drop}
use Rattle.definitions.specs.Held as H
use Rattle.frame_index.specs.InLog as N
use Rattle.frame_index.specs.Wants as W
use Rattle.frame_index.proofs.in_log.first_in.Given as goal

abbrev pub invariant-loop-one : goal.invariant-loop-one
invariant-loop-one l = W.least_from (N.takes (H.commit_of l.turn) l.log) l.best (drop l.one-index l.seen) ≡ W.least_from (N.takes (H.commit_of l.turn) l.log) None l.seen
