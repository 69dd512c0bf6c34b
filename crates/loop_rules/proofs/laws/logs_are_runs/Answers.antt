use Rattle.loop_rules.proofs.Runs.{logs_are_runs}
use Rattle.loop_rules.proofs.laws.logs_are_runs.Goals as goal

pub returns : goal.returns
returns c = logs_are_runs
