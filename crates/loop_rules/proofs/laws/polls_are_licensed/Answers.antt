use Rattle.loop_rules.proofs.Prefixes.{polls_are_licensed, failed_polls_are_licensed}
use Rattle.loop_rules.proofs.laws.polls_are_licensed.Goals as goal

pub returns-clause-done : goal.returns-clause-done
returns-clause-done c = polls_are_licensed

pub returns-clause-failed : goal.returns-clause-failed
returns-clause-failed c = failed_polls_are_licensed
