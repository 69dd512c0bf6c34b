use Rattle.session_log.proofs.GoneOn.{log_goes_on}
use Rattle.session_log.proofs.laws.readers_go_on.Goals as goal

pub returns : goal.returns
returns c = log_goes_on
