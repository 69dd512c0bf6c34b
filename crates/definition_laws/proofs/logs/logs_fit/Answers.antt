use Rattle.definition_laws.proofs.Room as R
use Rattle.definition_laws.proofs.logs.logs_fit.Goals as goal

pub returns-clause-clean : goal.returns-clause-clean
returns-clause-clean c = R.clean_logs_fit

pub returns-clause-one_more : goal.returns-clause-one_more
returns-clause-one_more c = R.logs_fit

pub returns-clause-small : goal.returns-clause-small
returns-clause-small c = R.room_small
