use Rattle.loop_laws.proofs.Tallied.{takes_are_few, gives_are_few, syncs_are_few, idle_reads_are_few, idle_writes_are_few, closings_are_few, dials_are_few}
use Rattle.loop_laws.proofs.laws.items_are_few.Goals as goal

pub returns-clause-takes : goal.returns-clause-takes
returns-clause-takes c = takes_are_few

pub returns-clause-gives : goal.returns-clause-gives
returns-clause-gives c = gives_are_few

pub returns-clause-syncs : goal.returns-clause-syncs
returns-clause-syncs c = syncs_are_few

pub returns-clause-reads : goal.returns-clause-reads
returns-clause-reads c = idle_reads_are_few

pub returns-clause-writes : goal.returns-clause-writes
returns-clause-writes c = idle_writes_are_few

pub returns-clause-closings : goal.returns-clause-closings
returns-clause-closings c = closings_are_few

pub returns-clause-dials : goal.returns-clause-dials
returns-clause-dials c = dials_are_few
