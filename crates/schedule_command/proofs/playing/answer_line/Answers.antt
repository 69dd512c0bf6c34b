use Rattle.std.proofs.Common.{◌+◌, ap, refl}
use Rattle.line_io.specs.Inputs.{End, Line}
use Rattle.line_io.proofs.Inputs.{end_read, fault_read, last_read}
use Rattle.run_frame.specs.declared.statuses.Status.TheVariants.{BadLine, InputFault}
use Rattle.run_frame.specs.declared.statuses.TextName.TheVariants.{Script}
use Rattle.schedule_command.specs.Schedule.{schedule_from}
use Rattle.schedule_command.proofs.Readings.{bare_ends, come_plays, line_over, line_turns, too_long}
use Rattle.schedule_command.proofs.playing.answer_line.Goals as goal

pub returns-in-Failed-clause-text : goal.returns-in-Failed-clause-text
returns-in-Failed-clause-text g c =
    let e = c.in-Failed.ensures.gave in
    record { drew = c.in-Failed.ensures.drew; ends = λ behind m. bare_ends _ _ _ InputFault refl (ap (schedule_from c.args.table.now c.args.lines) (fault_read _ _ e.0 e.1)); over = tt }

pub returns-in-TooLong-clause-text : goal.returns-in-TooLong-clause-text
returns-in-TooLong-clause-text g c =
    rw c.bad_line.ensures
    (record { drew = c.in-TooLong.ensures.drew; ends = λ behind m. bare_ends _ _ _ (BadLine Script _) refl (too_long _ _ _ End (c.in-TooLong.ensures.gave behind)); over = tt })

pub returns-in-End-clause-text : goal.returns-in-End-clause-text
returns-in-End-clause-text g c =
    let e = c.in-End.ensures.gave in
    let due = schedule_from c.args.table.now c.args.lines in
    come_plays _ _ due _ (due End) (record { drew = c.in-End.ensures.drew; over = e.1; rest_is = λ behind m. ap due (end_read _ _ e.0 (m e.1)) }) _ _ c.end.result c.end.ensures.source
    (c.end.ensures.text c.args.lines)

pub returns-in-Last-clause-text : goal.returns-in-Last-clause-text
returns-in-Last-clause-text g c =
    let e = c.in-Last.ensures.gave in
    let due = schedule_from c.args.table.now c.args.lines in
    come_plays _ _ due _ (due (Line _ End)) (record { drew = c.in-Last.ensures.drew; over = e.3; rest_is = λ behind m. ap due (last_read _ _ _ e.0 e.1 e.2 (m e.3)) }) _ _ c.answer_last.result
    c.answer_last.ensures.source (rw (← c.line.ensures.line) c.answer_last.ensures.text)

pub returns-in-Line-clause-text : goal.returns-in-Line-clause-text
returns-in-Line-clause-text g c =
    let e = c.in-Line.ensures.gave in
    line_turns _ _ _ _ _ c.in-Line.ensures.drew e.0 e.1 _ _ (schedule_from c.args.table.now c.args.lines) (schedule_from c.answer.new.table (c.args.lines + 1)) (c.args.lines + 1) c.answer.result
    (λ input. rw (← c.line-in-Line.ensures.line) (c.answer.ensures.text input))

pub returns-in-Line-clause-over : goal.returns-in-Line-clause-over
returns-in-Line-clause-over g c = line_over _ _ _ _ _ _ c.answer.result (c.answer.ensures.text End)

pub returns-in-End-clause-over : goal.returns-in-End-clause-over
returns-in-End-clause-over g c = λ e. c.in-End.ensures.gave.1

pub returns-in-Last-clause-over : goal.returns-in-Last-clause-over
returns-in-Last-clause-over g c = λ e. c.in-Last.ensures.gave.3
