use Rattle.session_log.proofs.Logs.{log_written}
use Rattle.session_log.proofs.laws.writers_write_logs.Goals as goal

pub returns : goal.returns
returns c = log_written
