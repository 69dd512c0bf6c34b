use Rattle.std.proofs.Common.{◌≡◌, None, drop}
use Rattle.frame_index.specs.Wants as W
use Rattle.auditor.specs.Exhibits as X
use Rattle.auditor.proofs.turns.first_commit.Given as goal

abbrev pub invariant-loop-one : goal.invariant-loop-one
invariant-loop-one l = W.least_from (X.commits_in l.log) l.best (drop l.one-index l.seen) ≡ W.least_from (X.commits_in l.log) None l.seen
