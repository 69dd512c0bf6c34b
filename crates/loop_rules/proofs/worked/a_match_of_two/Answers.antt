use Rattle.loop_rules.proofs.Computed.{begins_by_the_rules, greets_by_the_rules, takes_frames_by_the_rules, reveals_by_the_rules, asks_once_for_a_far_frame}
use Rattle.loop_rules.proofs.worked.a_match_of_two.Goals as goal

pub returns-clause-begins : goal.returns-clause-begins
returns-clause-begins c = begins_by_the_rules

pub returns-clause-greets : goal.returns-clause-greets
returns-clause-greets c = greets_by_the_rules

pub returns-clause-takes : goal.returns-clause-takes
returns-clause-takes c = takes_frames_by_the_rules

pub returns-clause-reveals : goal.returns-clause-reveals
returns-clause-reveals c = reveals_by_the_rules

pub returns-clause-asks : goal.returns-clause-asks
returns-clause-asks c = asks_once_for_a_far_frame
