use Rattle.std.proofs.Common.{◌≡◌, ◌<◌, ℕ, length, slice_index, bit_or}
use Rattle.cell_set.proofs.words.joined_row.Given as goal

abbrev pub invariant-loop-i : goal.invariant-loop-i
invariant-loop-i g l = record {
  len : length l.joined ≡ g.row.W;
  done : (k : ℕ) → k < l.i → slice_index l.joined k ≡ bit_or (slice_index l.one k) (slice_index l.other k);
}
