use Rattle.loop_laws.proofs.Asked.{asked_are_counted}
use Rattle.loop_laws.proofs.Counted.{counts_are_reached}
use Rattle.loop_laws.proofs.laws.counts_are_reached.Goals as goal

pub returns-clause-reached : goal.returns-clause-reached
returns-clause-reached c = counts_are_reached

pub returns-clause-asked : goal.returns-clause-asked
returns-clause-asked c = asked_are_counted
