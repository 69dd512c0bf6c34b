use Rattle.std.proofs.Common.{◌≡◌, ◌++◌, drop}
use Rattle.std.specs.Prelude.{map}
use Rattle.frame_index.specs.Kept as K
use Rattle.frame_index.proofs.frames.put_frame.Given as goal

abbrev pub invariant-loop-spot : goal.invariant-loop-spot
invariant-loop-spot l = l.out.items ++ map (K.seen_with l.frame l.digest) (drop l.spot-index l.spots) ≡ l.initial.out.items ++ map (K.seen_with l.frame l.digest) l.spots
