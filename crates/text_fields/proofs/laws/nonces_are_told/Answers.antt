use Rattle.text_fields.proofs.HexFields.{nonce_read, nonce_spelled}
use Rattle.text_fields.proofs.laws.nonces_are_told.Goals as goal

pub returns-clause-read : goal.returns-clause-read
returns-clause-read c = nonce_read

pub returns-clause-spelled : goal.returns-clause-spelled
returns-clause-spelled c = nonce_spelled
