use Rattle.std.proofs.Common.{◌≡◌, length, ℕ}
use Rattle.std.specs.Prelude.{◌&&◌, nat_lt}
use Rattle.move_rules.specs.declared.window.TheConstants.{ROWS}
use Rattle.move_rules.specs.Windows.{lit, near_place}
use Rattle.move_rules.proofs.window.next_rows.Given as goal

abbrev pub invariant-loop-row : goal.invariant-loop-row
invariant-loop-row l = record {
  len : length l.next ≡ ROWS;
  bits : (i r : ℕ) → lit l.next i r ≡ (nat_lt r l.row && (lit l.open_rows i r && near_place (lit l.rows) i r));
}
