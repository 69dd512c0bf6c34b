use Rattle.std.proofs.Common.{◌≡◌, None, drop}
use Rattle.frame_index.specs.Wants as W
use Rattle.frame_index.proofs.least.least.Given as goal

abbrev pub invariant-loop-one : goal.invariant-loop-one
invariant-loop-one l = W.least_from (W.wants l.wanted) l.best (drop l.one-index l.seen) ≡ W.least_from (W.wants l.wanted) None l.seen
