use Rattle.std.proofs.Common.{◌≡◌, ◌<◌, ℕ, Some, slice_get}
use Rattle.frame_index.specs.declared.seen.Seen.{Seen}
use Rattle.frame_index.specs.Clashes.{InTable, IsFrom, look}
use Rattle.frame_index.proofs.clashes.are_apart.Given as goal

abbrev pub invariant-loop-one : goal.invariant-loop-one
invariant-loop-one l = record {
  noted : (n : ℕ) (k : Seen) → n < l.one-index → slice_get l.seen n ≡ Some k → InTable (look l.table) k;
  from : IsFrom l.seen (look l.table);
}
