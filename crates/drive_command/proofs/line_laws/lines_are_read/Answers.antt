use Rattle.drive_command.proofs.Lines.{line_read}
use Rattle.drive_command.proofs.line_laws.lines_are_read.Goals as goal

pub returns : goal.returns
returns c = line_read
