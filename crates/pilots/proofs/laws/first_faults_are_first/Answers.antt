use Rattle.pilots.proofs.Faulty.{first_fault}
use Rattle.pilots.proofs.laws.first_faults_are_first.Goals as goal

pub returns : goal.returns
returns c turns text n fault = first_fault turns text n fault
