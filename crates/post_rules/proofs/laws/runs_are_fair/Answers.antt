use Rattle.post_rules.proofs.Whole.{runs_are_fair}
use Rattle.post_rules.proofs.laws.runs_are_fair.Goals as goal

pub returns : goal.returns
returns c = runs_are_fair
