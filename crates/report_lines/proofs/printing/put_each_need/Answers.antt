use Rattle.std.proofs.Common.{arith, drop, flat_map, ◌+◌}
use Rattle.std.proofs.lemmas.Grind.{common_steps}
use Rattle.line_io.proofs.Writing.{puts_cut, underway_cut}
use Rattle.report_lines.specs.Lines.{need_text}
use Rattle.report_lines.proofs.printing.put_each_need.Goals as goal

pub returns-in_err-put : goal.returns-in_err-put
returns-in_err-put g c =
    puts_cut _ _ _ c.from_residual.result c.from_residual.ensures.0
    (underway_cut _ _ _ _ _ c.as_slice.result.now (flat_map need_text (drop (c.needs.need-index + 1) c.args.needs.now)) c.needs.invariant (grind (arith, common_steps)) c.in_err-put.ensures)
