use Rattle.std.proofs.Common.{◌≡◌, ℕ}
use Rattle.std.specs.Prelude.{◌&&◌, nat_lt}
use Rattle.definitions.specs.World.{is_open}
use Rattle.move_rules.specs.Windows.{is_set, shows}
use Rattle.move_rules.proofs.window.open_row.Given as goal

abbrev pub invariant-loop-column : goal.invariant-loop-column
invariant-loop-column l = (i : ℕ) → is_set l.word i ≡ (nat_lt i l.column && shows l.middle l.radius (is_open l.grid) i l.row)
