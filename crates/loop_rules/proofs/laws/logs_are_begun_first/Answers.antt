use Rattle.loop_rules.proofs.Ends.{logs_are_begun_first}
use Rattle.loop_rules.proofs.laws.logs_are_begun_first.Goals as goal

pub returns : goal.returns
returns c = logs_are_begun_first
