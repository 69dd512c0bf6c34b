use Rattle.text_fields.proofs.Fields.{lone_read, lone_spelled}
use Rattle.text_fields.proofs.laws.lone_numbers_are_told.Goals as goal

pub returns-clause-read : goal.returns-clause-read
returns-clause-read c = lone_read

pub returns-clause-spelled : goal.returns-clause-spelled
returns-clause-spelled c = lone_spelled
