use Rattle.loop_rules.proofs.Given.{given_is_due}
use Rattle.loop_rules.proofs.laws.given_is_due.Goals as goal

pub returns : goal.returns
returns c = given_is_due
