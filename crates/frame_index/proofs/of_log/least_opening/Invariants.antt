use Rattle.std.proofs.Common.{◌≡◌, None, drop}
use Rattle.frame_index.specs.Judged as J
use Rattle.frame_index.specs.Kept as K
use Rattle.frame_index.specs.Wants as W
use Rattle.frame_index.proofs.of_log.least_opening.Given as goal

abbrev pub invariant-loop-one : goal.invariant-loop-one
invariant-loop-one l = W.least_from (J.is_good l.session l.player l.track l.digest l.log) l.best (K.seen_in (drop l.one-index l.kept)) ≡ W.least_from (J.is_good l.session l.player l.track l.digest l.log) None (K.seen_in l.kept)
