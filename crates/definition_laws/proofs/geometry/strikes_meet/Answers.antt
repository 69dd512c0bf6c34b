use Rattle.definition_laws.proofs.Strikes.{who_is_hit_meets}
use Rattle.definition_laws.proofs.geometry.strikes_meet.Goals as goal

pub returns : goal.returns
returns c = who_is_hit_meets
