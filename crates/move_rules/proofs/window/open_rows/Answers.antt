use Rattle.std.proofs.Common.{arith, ◌∙◌}
use Rattle.std.proofs.Math.ListN.{length-set}
use Rattle.move_rules.proofs.WindowBits.{rows_begun, rows_more}
use Rattle.move_rules.proofs.window.open_rows.Goals as goal

pub loop-row-init : goal.loop-row-init
loop-row-init c = record { len = c.no_rows-rows.ensures.len; bits = rows_begun c.no_rows-rows.result _ c.no_rows-rows.ensures.bits }

pub loop-row-preserved : goal.loop-row-preserved
loop-row-preserved c = record {
  len = length-set c.loop-row.rows c.from.result c.open_row.result ∙ c.loop-row.invariant.len;
  bits = rw c.from.ensures (rows_more c.loop-row.rows c.loop-row.row c.open_row.result _ (omega arith) c.loop-row.invariant.bits c.open_row.ensures);
}
