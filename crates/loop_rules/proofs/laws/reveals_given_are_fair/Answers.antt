use Rattle.loop_rules.proofs.Revealed.{reveals_given_are_fair}
use Rattle.loop_rules.proofs.laws.reveals_given_are_fair.Goals as goal

pub returns : goal.returns
returns c = reveals_given_are_fair
