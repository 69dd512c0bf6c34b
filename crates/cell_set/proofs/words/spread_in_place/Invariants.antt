use Rattle.std.proofs.Common.{◌≡◌, ◌≤◌, ℕ, slice_index}
use Rattle.cell_set.specs.Bits.{word_before}
use Rattle.cell_set.proofs.RowBits.{IsSpreadTo}
use Rattle.cell_set.proofs.words.spread_in_place.Given as goal

abbrev pub invariant-loop-i : goal.invariant-loop-i
invariant-loop-i l = record {
  so_far : IsSpreadTo l.initial.row l.row l.i;
  rest : (k : ℕ) → l.i ≤ k → slice_index l.row k ≡ slice_index l.initial.row k;
  before : l.before ≡ word_before l.initial.row l.i;
}
