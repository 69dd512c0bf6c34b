use Rattle.lethwyrn_c.proofs.Fair.{runs_fair}
use Rattle.lethwyrn_c.proofs.laws.logs_are_fair.Goals as goal

pub returns : goal.returns
returns c = runs_fair
