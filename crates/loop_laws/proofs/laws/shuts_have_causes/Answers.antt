use Rattle.loop_laws.proofs.Shutting.{shuts_have_causes}
use Rattle.loop_laws.proofs.laws.shuts_have_causes.Goals as goal

pub returns : goal.returns
returns c = shuts_have_causes
