use Rattle.evidence.proofs.Convicted.{illegal_convicts}
use Rattle.evidence.proofs.laws.illegal_moves_convict.Goals as goal

pub returns : goal.returns
returns c = illegal_convicts
