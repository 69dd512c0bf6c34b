use Rattle.std.proofs.Common.{◌≡◌, None, drop}
use Rattle.frame_index.specs.Wants as W
use Rattle.frame_index.proofs.least.least_rivalled.Given as goal

abbrev pub invariant-loop-one : goal.invariant-loop-one
invariant-loop-one l = W.least_from (W.has_rival l.seen) l.best (drop l.one-index l.seen) ≡ W.least_from (W.has_rival l.seen) None l.seen
