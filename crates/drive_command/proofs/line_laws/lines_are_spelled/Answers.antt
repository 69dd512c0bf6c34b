use Rattle.drive_command.proofs.Lines.{line_spelled}
use Rattle.drive_command.proofs.line_laws.lines_are_spelled.Goals as goal

pub returns : goal.returns
returns c = line_spelled
