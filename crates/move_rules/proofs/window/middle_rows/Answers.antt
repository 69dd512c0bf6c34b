use Rattle.std.proofs.Common.{arith}
use Rattle.move_rules.proofs.WindowBits.{rows_one}
use Rattle.move_rules.proofs.window.middle_rows.Goals as goal

pub returns : goal.returns
returns c = λ i r. rw c.from.ensures (rows_one c.no_rows-rows.result c.args.radius c.with_bit.result i r (omega arith) c.no_rows-rows.ensures.bits c.with_bit.ensures)
