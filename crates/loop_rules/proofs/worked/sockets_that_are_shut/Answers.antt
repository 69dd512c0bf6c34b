use Rattle.loop_rules.proofs.Computed.{shuts_for_a_bad_byte, reads_no_more_than_a_hello, shuts_the_former_of_one_name}
use Rattle.loop_rules.proofs.worked.sockets_that_are_shut.Goals as goal

pub returns-clause-bad : goal.returns-clause-bad
returns-clause-bad c = shuts_for_a_bad_byte

pub returns-clause-long : goal.returns-clause-long
returns-clause-long c = reads_no_more_than_a_hello

pub returns-clause-alike : goal.returns-clause-alike
returns-clause-alike c = shuts_the_former_of_one_name
