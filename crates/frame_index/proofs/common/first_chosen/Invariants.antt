use Rattle.std.proofs.Common.{◌≡◌, ◌<◌, ℕ, false}
use Rattle.frame_index.specs.Plain.{is_among}
use Rattle.frame_index.proofs.common.first_chosen.Given as goal

abbrev pub invariant-loop-at : goal.invariant-loop-at
invariant-loop-at l = (i : ℕ) → i < l.at → is_among l.chosen i ≡ false
