use Rattle.sealed_text.proofs.Worked.{faults_named, one_frame_told}
use Rattle.sealed_text.proofs.laws.worked_texts.Goals as goal

pub returns-clause-told : goal.returns-clause-told
returns-clause-told c = one_frame_told

pub returns-clause-faults : goal.returns-clause-faults
returns-clause-faults c = faults_named
