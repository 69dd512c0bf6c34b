use Rattle.std.proofs.Common.{◌+◌}
use Rattle.line_io.specs.Inputs.{End}
use Rattle.run_frame.specs.Frame.{bare_answer}
use Rattle.run_frame.proofs.Frames.{onward_ends}
use Rattle.schedule_command.proofs.Readings.{line_calm, line_ends}
use Rattle.schedule_command.proofs.playing.answer_last.Goals as goal

pub returns-in-Ok-clause-text : goal.returns-in-Ok-clause-text
returns-in-Ok-clause-text g c = onward_ends _ _ _ _ _ c.end.result (c.in-Ok.ensures.text End) (c.end.ensures.text (c.args.lines + 1))

pub returns-in-Err-clause-text : goal.returns-in-Err-clause-text
returns-in-Err-clause-text g c = line_ends _ _ _ (bare_answer c.in-Err.status) _ c.in-Err.status (c.in-Err.ensures.text End)

pub returns-in-Err-clause-source : goal.returns-in-Err-clause-source
returns-in-Err-clause-source g c = line_calm _ _ _ (bare_answer c.in-Err.status) _ c.in-Err.status (c.in-Err.ensures.text End)
