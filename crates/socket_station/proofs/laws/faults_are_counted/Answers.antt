use Rattle.socket_station.specs.Faults.{is_fault, is_poll_call, is_keep_call, is_link_call}
use Rattle.socket_station.proofs.Histories.{count-more}
use Rattle.socket_station.proofs.laws.faults_are_counted.Goals as goal

pub returns-clause-polls : goal.returns-clause-polls
returns-clause-polls c items item = count-more (is_fault is_poll_call) items item

pub returns-clause-keeps : goal.returns-clause-keeps
returns-clause-keeps c items item = count-more (is_fault is_keep_call) items item

pub returns-clause-links : goal.returns-clause-links
returns-clause-links c items item = count-more (is_fault is_link_call) items item
