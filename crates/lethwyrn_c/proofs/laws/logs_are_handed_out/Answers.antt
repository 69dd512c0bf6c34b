use Rattle.lethwyrn_c.proofs.Runs.{runs_told}
use Rattle.lethwyrn_c.proofs.laws.logs_are_handed_out.Goals as goal

pub returns : goal.returns
returns c = runs_told
