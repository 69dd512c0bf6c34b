use Rattle.std.proofs.Common.{length, ℕ, ◌+◌, ◌-◌, ◌<◌, ◌≡◌}
use Rattle.frame_index.specs.Rows as R
use Rattle.frame_index.proofs.rows.lengthen.Given as goal

abbrev pub invariant-turns : goal.invariant-turns
invariant-turns l = ((q t : ℕ) → R.kept_by l.rows.items q t ≡ R.kept_by l.initial.rows.items q t) × (l.turn < length l.initial.rows.items → length l.rows.items ≡ length l.initial.rows.items)

abbrev pub decreases-turns : goal.decreases-turns
decreases-turns l = l.turn + 1 - length l.rows.items
