use Rattle.loop_rules.proofs.Told.{told_goes_on}
use Rattle.loop_rules.proofs.laws.told_goes_on.Goals as goal

pub returns : goal.returns
returns c = told_goes_on
