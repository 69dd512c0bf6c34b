use Rattle.text_fields.proofs.HexFields.{frame_read, frame_spelled}
use Rattle.text_fields.proofs.laws.frames_are_told.Goals as goal

pub returns-clause-read : goal.returns-clause-read
returns-clause-read c = frame_read

pub returns-clause-spelled : goal.returns-clause-spelled
returns-clause-spelled c = frame_spelled
