use Rattle.loop_rules.proofs.Computed.{answers_a_hello, goes_on_from_an_older_log, moves_by_a_want}
use Rattle.loop_rules.proofs.worked.older_logs_and_answers.Goals as goal

pub returns-clause-older : goal.returns-clause-older
returns-clause-older c = goes_on_from_an_older_log

pub returns-clause-hello : goal.returns-clause-hello
returns-clause-hello c = answers_a_hello

pub returns-clause-want : goal.returns-clause-want
returns-clause-want c = moves_by_a_want
