use Rattle.loop_laws.proofs.Paid.{takes_have_bytes, gives_have_bytes, syncs_have_entries, closings_are_last}
use Rattle.loop_laws.proofs.laws.items_are_paid_for.Goals as goal

pub returns-clause-takes : goal.returns-clause-takes
returns-clause-takes c = takes_have_bytes

pub returns-clause-gives : goal.returns-clause-gives
returns-clause-gives c = gives_have_bytes

pub returns-clause-syncs : goal.returns-clause-syncs
returns-clause-syncs c = syncs_have_entries

pub returns-clause-closings : goal.returns-clause-closings
returns-clause-closings c = closings_are_last
