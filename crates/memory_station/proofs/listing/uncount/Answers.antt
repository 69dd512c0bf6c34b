use Rattle.std.proofs.Common.{get_or, ◌≡◌, ◌<◌, ◌+◌, ◌++◌, ℕ, List, ap, ◌∙◌, slice_set, length, map, take, drop, arith}
use Rattle.std.proofs.lemmas.List.{get_or_default}
use Rattle.std.proofs.lemmas.List.Edits.{map_over_more}
use Rattle.memory_station.specs.declared.rows.Row.{Row}
use Rattle.memory_station.specs.Rows.{row_uncounted}
use Rattle.memory_station.proofs.listing.uncount.Goals as goal

-- a turn that writes one row
one-more : (f : Row → Row) (xs ys : List Row) (i : ℕ) (d y : Row) → i < length xs → length ys ≡ length xs → ys ≡ map f (take i xs) ++ drop i xs
    → y ≡ f (get_or ys i d) → slice_set ys i y ≡ map f (take (i + 1) xs) ++ drop (i + 1) xs
one-more f xs ys i d y h n inv e =
    ap (slice_set ys i) e ∙ map_over_more f xs ys i (get_or ys i d) h inv (get_or_default ys i d (get_or ys i d) (omega arith))

pub loop-row-preserved : goal.loop-row-preserved
loop-row-preserved c =
    one-more row_uncounted c.deref_mut-row-items.result.now c.loop-row.row-items c.loop-row.row-index _ _ c.loop-row-test.true c.loop-row.auto.row-items c.loop-row.invariant c.uncount_row.ensures
