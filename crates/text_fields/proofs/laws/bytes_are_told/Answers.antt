use Rattle.text_fields.proofs.HexFields.{bytes_read, bytes_spelled}
use Rattle.text_fields.proofs.laws.bytes_are_told.Goals as goal

pub returns-clause-read : goal.returns-clause-read
returns-clause-read c = bytes_read

pub returns-clause-spelled : goal.returns-clause-spelled
returns-clause-spelled c = bytes_spelled
