use Rattle.evidence.proofs.Faulty.{first_faults}
use Rattle.evidence.proofs.laws.first_faults_are_first.Goals as goal

pub returns : goal.returns
returns c = first_faults
