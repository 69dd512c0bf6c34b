use Rattle.loop_rules.proofs.Computed.{reads_before_it_polls, syncs_before_it_polls, polls_for_a_reason}
use Rattle.loop_rules.proofs.worked.polls.Goals as goal

pub returns-clause-reads : goal.returns-clause-reads
returns-clause-reads c = reads_before_it_polls

pub returns-clause-syncs : goal.returns-clause-syncs
returns-clause-syncs c = syncs_before_it_polls

pub returns-clause-reason : goal.returns-clause-reason
returns-clause-reason c = polls_for_a_reason
