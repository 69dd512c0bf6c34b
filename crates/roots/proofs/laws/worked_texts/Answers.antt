use Rattle.roots.proofs.Worked.{faults_named, two_roots_told}
use Rattle.roots.proofs.laws.worked_texts.Goals as goal

pub returns-clause-told : goal.returns-clause-told
returns-clause-told c = two_roots_told

pub returns-clause-faults : goal.returns-clause-faults
returns-clause-faults c = faults_named
