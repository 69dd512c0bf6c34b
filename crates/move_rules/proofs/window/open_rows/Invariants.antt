use Rattle.std.proofs.Common.{◌≡◌, length, ◌+◌, ◌*◌, ℕ}
use Rattle.std.specs.Prelude.{◌&&◌, nat_lt}
use Rattle.definitions.specs.World.{is_open}
use Rattle.move_rules.specs.declared.window.TheConstants.{ROWS}
use Rattle.move_rules.specs.Windows.{lit, shows}
use Rattle.move_rules.proofs.window.open_rows.Given as goal

abbrev pub invariant-loop-row : goal.invariant-loop-row
invariant-loop-row l = record {
  len : length l.rows ≡ ROWS;
  bits : (i r : ℕ) → lit l.rows i r ≡ (nat_lt r l.row && (nat_lt i (2 * l.radius + 1) && shows l.middle l.radius (is_open l.grid) i r));
}
