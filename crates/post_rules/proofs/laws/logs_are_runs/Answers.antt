use Rattle.post_rules.proofs.Stretches.{logs_are_runs}
use Rattle.post_rules.proofs.laws.logs_are_runs.Goals as goal

pub returns : goal.returns
returns c = logs_are_runs
