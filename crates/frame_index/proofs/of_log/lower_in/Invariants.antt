use Rattle.std.proofs.Common.{◌≡◌, drop}
use Rattle.std.specs.Prelude.{map}
use Rattle.frame_index.specs.Kept as K
use Rattle.frame_index.specs.OfLog as O
use Rattle.frame_index.specs.Wants as W
use Rattle.frame_index.proofs.of_log.lower_in.Given as goal

abbrev pub invariant-loop-spot : goal.invariant-loop-spot
invariant-loop-spot l = W.least_from (O.stands_in l.log) l.best (map (K.seen_with l.one.frame l.one.digest) (drop l.spot-index l.one.spots.items)) ≡ W.least_from (O.stands_in l.log) l.initial.best (K.seen_of l.one)
