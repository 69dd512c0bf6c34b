use Rattle.std.proofs.Common.{Some, slice_get, ℕ, ◌<◌, ◌≡◌}
use Rattle.frame_index.specs.declared.kept.KeptFrame.{KeptFrame}
use Rattle.frame_index.proofs.kept.place_in.Given as goal

abbrev pub invariant-loop-at : goal.invariant-loop-at
invariant-loop-at l = (i : ℕ) (k : KeptFrame) → i < l.at → slice_get l.kept i ≡ Some k → k.frame ≡ l.frame → ⊥
