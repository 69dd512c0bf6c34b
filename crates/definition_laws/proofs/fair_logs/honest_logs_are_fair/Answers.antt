use Rattle.definition_laws.proofs.Fair.{honest_fair}
use Rattle.definition_laws.proofs.fair_logs.honest_logs_are_fair.Goals as goal

pub returns : goal.returns
returns c = honest_fair
