use Rattle.text_fields.proofs.Fields.{number_read, number_spelled}
use Rattle.text_fields.proofs.laws.numbers_are_told.Goals as goal

pub returns-clause-read : goal.returns-clause-read
returns-clause-read c = number_read

pub returns-clause-spelled : goal.returns-clause-spelled
returns-clause-spelled c = number_spelled
