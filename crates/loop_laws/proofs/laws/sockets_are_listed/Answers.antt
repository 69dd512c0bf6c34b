use Rattle.loop_laws.proofs.Marks.{reads_are_listed, writes_are_listed}
use Rattle.loop_laws.proofs.laws.sockets_are_listed.Goals as goal

pub returns-clause-reads : goal.returns-clause-reads
returns-clause-reads c = reads_are_listed

pub returns-clause-writes : goal.returns-clause-writes
returns-clause-writes c = writes_are_listed
