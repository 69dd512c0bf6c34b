use Rattle.loop_rules.proofs.Ends.{faults_are_last}
use Rattle.loop_rules.proofs.laws.faults_are_last.Goals as goal

pub returns : goal.returns
returns c = faults_are_last
