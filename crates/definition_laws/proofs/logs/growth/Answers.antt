use Rattle.definition_laws.proofs.ForPeers.{honest_empty, honest_last, honest_push}
use Rattle.definition_laws.proofs.Meetings.{meets_before}
use Rattle.definition_laws.proofs.Permits.{IsHonest_prefix}
use Rattle.definition_laws.proofs.Stays.{reveal_stays, commit_stays}
use Rattle.definition_laws.proofs.Settling.{settled_stays}
use Rattle.definition_laws.proofs.WellFormed.{honest_well_formed}
use Rattle.definition_laws.proofs.logs.growth.Goals as goal

pub returns-clause-honest : goal.returns-clause-honest
returns-clause-honest c game me = (honest_empty game me, λ h e. (honest_last game me h e, λ p. honest_push game me h e p.0 p.1))

pub returns-clause-prefixes : goal.returns-clause-prefixes
returns-clause-prefixes c = IsHonest_prefix

pub returns-clause-meetings : goal.returns-clause-meetings
returns-clause-meetings c = meets_before

pub returns-clause-permits : goal.returns-clause-permits
returns-clause-permits c game me t g h d i lt = (reveal_stays game me t g h d i lt, commit_stays game me t g h d i lt)

pub returns-clause-well_formed : goal.returns-clause-well_formed
returns-clause-well_formed c = honest_well_formed

pub returns-clause-settled : goal.returns-clause-settled
returns-clause-settled c = settled_stays
