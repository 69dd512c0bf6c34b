use Rattle.sealed_evidence.proofs.Transferred.{transferable}
use Rattle.sealed_evidence.proofs.laws.judged_evidence_is_transferable.Goals as goal

pub returns : goal.returns
returns c = transferable
