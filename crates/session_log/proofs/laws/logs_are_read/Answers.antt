use Rattle.session_log.proofs.Logs.{log_read, log_ends}
use Rattle.session_log.proofs.laws.logs_are_read.Goals as goal

pub returns-clause-read : goal.returns-clause-read
returns-clause-read c = log_read

pub returns-clause-ends : goal.returns-clause-ends
returns-clause-ends c = log_ends
