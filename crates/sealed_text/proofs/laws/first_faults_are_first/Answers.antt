use Rattle.sealed_text.proofs.Faulty.{first_faults}
use Rattle.sealed_text.proofs.laws.first_faults_are_first.Goals as goal

pub returns : goal.returns
returns c = first_faults
