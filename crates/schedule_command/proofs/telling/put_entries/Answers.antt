use Rattle.std.proofs.Common.{arith, drop, flat_map, ◌+◌}
use Rattle.std.proofs.lemmas.Grind.{common_steps}
use Rattle.line_io.proofs.Writing.{puts_cut, underway_cut}
use Rattle.schedule_command.specs.Lines.{entry_line}
use Rattle.schedule_command.proofs.telling.put_entries.Goals as goal

pub returns-in_err-put : goal.returns-in_err-put
returns-in_err-put g c =
    puts_cut _ _ _ c.from_residual.result c.from_residual.ensures.0
    (underway_cut _ _ _ _ _ c.as_slice.result.now (flat_map (entry_line c.args.player) (drop (c.entries.entry-index + 1) c.args.entries.now)) c.entries.invariant (grind (arith, common_steps)) c.in_err-put.ensures)
