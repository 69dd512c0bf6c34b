use Rattle.line_io.specs.Inputs.{End}
use Rattle.drive_command.proofs.playing.end.Goals as goal

pub returns-then-is_some : goal.returns-then-is_some
returns-then-is_some g c = c.end_caught.ensures End
