use Rattle.std.proofs.Common.{◌∙◌}
use Rattle.line_io.proofs.Writing.{puts_cut, underway_cut, underway_end, underway_more}
use Rattle.drive_command.proofs.Digits.{digits_end, digits_step}
use Rattle.drive_command.proofs.logging.put_digits.Goals as goal

pub returns-in_err-put : goal.returns-in_err-put
returns-in_err-put g c =
    let step = digits_step c.entries.writer c.entry_digits.new.writer c.args.entries.now c.entries.entry-index _ c.as_slice.result.now c.entries-test.true
    (c.as_slice.ensures.value ∙ c.entry_digits.ensures.digits) c.entry_digits.ensures.writer in
    puts_cut _ _ _ c.from_residual.result c.from_residual.ensures.0 (underway_cut _ _ _ _ _ c.as_slice.result.now _ c.entries.invariant step c.in_err-put.ensures)

pub entries-preserved : goal.entries-preserved
entries-preserved g c =
    let step = digits_step c.entries.writer c.entry_digits.new.writer c.args.entries.now c.entries.entry-index _ c.as_slice.result.now c.entries-test.true
    (c.as_slice.ensures.value ∙ c.entry_digits.ensures.digits) c.entry_digits.ensures.writer in
    underway_more _ _ _ _ _ c.as_slice.result.now _ c.entries.invariant step c.in_ok-put.ensures

pub returns : goal.returns
returns g c = underway_end _ _ _ _ c.entries.invariant (digits_end c.entries.writer c.args.entries.now c.entries.entry-index c.entries-test.false)
