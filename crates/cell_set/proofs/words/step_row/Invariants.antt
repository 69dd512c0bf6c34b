use Rattle.std.proofs.Common.{◌≡◌, ◌<◌, ℕ, length, slice_index, bit_and, bit_or}
use Rattle.std.specs.Int.{bit_not, w64}
use Rattle.cell_set.proofs.Changes.{IsWritten}
use Rattle.cell_set.proofs.words.step_row.Given as goal

abbrev pub invariant-loop-i : goal.invariant-loop-i
invariant-loop-i g l = record {
  len : length l.pair ≡ g.row.W;
  stepped : (k : ℕ) → k < l.i → slice_index l.row k ≡ bit_and (slice_index l.wide k) (bit_not w64 (slice_index l.walls k));
  pair : (k : ℕ) → k < l.i → slice_index l.pair k ≡ bit_or (slice_index l.initial.row k) (slice_index l.below k);
  written : IsWritten l.initial.row l.row l.i l.change;
}
