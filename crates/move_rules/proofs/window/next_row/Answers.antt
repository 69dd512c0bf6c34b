use Rattle.std.proofs.Common.{ap, ◌∙◌, slice_index}
use Rattle.move_rules.proofs.WindowBits.{row_next}
use Rattle.move_rules.proofs.window.next_row.Goals as goal

pub returns : goal.returns
returns c = λ i.
    row_next c.args.open_rows.now c.args.rows.now c.args.row c.row_at-4.result c.row_at.result c.row_at-2.result c.row_at-3.result c.spread.result i
    c.row_at-4.type_inv c.row_at-4.ensures (c.row_at.ensures ∙ ap (slice_index c.args.rows.now) c.saturating_sub.ensures) c.row_at-2.ensures c.row_at-3.ensures c.spread.ensures
