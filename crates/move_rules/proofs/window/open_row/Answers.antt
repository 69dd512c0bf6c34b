use Rattle.move_rules.proofs.WindowBits.{word_begun, word_more}
use Rattle.move_rules.proofs.window.open_row.Goals as goal

pub loop-column-init : goal.loop-column-init
loop-column-init c = word_begun _

pub loop-column-preserved : goal.loop-column-preserved
loop-column-preserved c = word_more c.loop-column.word c.with_bit-word.result c.loop-column.column c.is_open_at.result _ c.loop-column.invariant c.is_open_at.ensures c.with_bit-word.ensures
