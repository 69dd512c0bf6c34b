use Rattle.text_fields.proofs.Fields.{cell_read, cell_spelled}
use Rattle.text_fields.proofs.laws.cells_are_told.Goals as goal

pub returns-clause-read : goal.returns-clause-read
returns-clause-read c = cell_read

pub returns-clause-spelled : goal.returns-clause-spelled
returns-clause-spelled c = cell_spelled
