use Rattle.session_log.proofs.Texts.{entry_read, entry_spelled}
use Rattle.session_log.proofs.laws.entries_are_read.Goals as goal

pub returns-clause-read : goal.returns-clause-read
returns-clause-read c = entry_read

pub returns-clause-spelled : goal.returns-clause-spelled
returns-clause-spelled c = entry_spelled
