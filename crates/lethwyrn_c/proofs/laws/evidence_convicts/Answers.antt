use Rattle.lethwyrn_c.proofs.Convicting.{convicts}
use Rattle.lethwyrn_c.proofs.laws.evidence_convicts.Goals as goal

pub returns : goal.returns
returns c = convicts
