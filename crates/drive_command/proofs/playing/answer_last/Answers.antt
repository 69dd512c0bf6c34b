use Rattle.line_io.specs.Inputs.{End}
use Rattle.run_frame.proofs.Frames.{onward_ends}
use Rattle.drive_command.proofs.playing.answer_last.Goals as goal

pub returns-in-Ok : goal.returns-in-Ok
returns-in-Ok g c = onward_ends _ _ _ _ _ c.end.result (c.in-Ok.ensures.text End) c.end.ensures

pub returns-in-Err : goal.returns-in-Err
returns-in-Err g c = c.in-Err.ensures.text End
