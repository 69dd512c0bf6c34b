use Rattle.loop_laws.proofs.Dials.{dials_are_wanted, dials_have_polls}
use Rattle.loop_laws.proofs.Redialled.{dials_find_none}
use Rattle.loop_laws.proofs.laws.dials_have_causes.Goals as goal

pub returns-clause-wanted : goal.returns-clause-wanted
returns-clause-wanted c = dials_are_wanted

pub returns-clause-polls : goal.returns-clause-polls
returns-clause-polls c = dials_have_polls

pub returns-clause-sockets : goal.returns-clause-sockets
returns-clause-sockets c = dials_find_none
