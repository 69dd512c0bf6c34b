use Rattle.std.proofs.Common.{arith, ◌∙◌}
use Rattle.std.proofs.Math.ListN.{length-set}
use Rattle.move_rules.proofs.WindowBits.{rows_begun, rows_more, rows_all}
use Rattle.move_rules.proofs.window.next_rows.Goals as goal

pub loop-row-init : goal.loop-row-init
loop-row-init c = record { len = c.no_rows-next.ensures.len; bits = rows_begun c.no_rows-next.result _ c.no_rows-next.ensures.bits }

pub loop-row-preserved : goal.loop-row-preserved
loop-row-preserved c = record {
  len = length-set c.loop-row.next c.loop-row.row c.next_row.result ∙ c.loop-row.invariant.len;
  bits = rows_more c.loop-row.next c.loop-row.row c.next_row.result _ (omega arith) c.loop-row.invariant.bits c.next_row.ensures;
}

pub returns : goal.returns
returns c = rows_all c.args.open_rows.now c.loop-row.next c.loop-row.row _ (omega arith) c.loop-row.invariant.bits
