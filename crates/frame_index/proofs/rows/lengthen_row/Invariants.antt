use Rattle.std.proofs.Common.{length, ℕ, ◌+◌, ◌-◌, ◌<◌, ◌≡◌}
use Rattle.frame_index.specs.Rows as R
use Rattle.frame_index.proofs.rows.lengthen_row.Given as goal

abbrev pub invariant-places : goal.invariant-places
invariant-places l = ((q : ℕ) → R.kept_at l.row.items q ≡ R.kept_at l.initial.row.items q) × (l.player < length l.initial.row.items → length l.row.items ≡ length l.initial.row.items)

abbrev pub decreases-places : goal.decreases-places
decreases-places l = l.player + 1 - length l.row.items
