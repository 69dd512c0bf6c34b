use Rattle.ready_loop.proofs.CallsIn.{read_hearing, read_first, reads_so}
use Rattle.ready_loop.proofs.ready.Loop.read.Goals as goal

pub handle-requires-clause-hearing : goal.handle-requires-clause-hearing
handle-requires-clause-hearing g c = read_hearing c.args.place c.args.socket c.read_once.result _ _ c.args.self.now c.read_once.new.self c.requires.ready c.requires.at c.requires.wants c.read_once.ensures

pub handle-requires-clause-first : goal.handle-requires-clause-first
handle-requires-clause-first g c = read_first c.args.socket c.read_once.result _ _ c.args.self.now c.read_once.new.self c.requires.ready c.read_once.ensures

pub returns : goal.returns
returns g c = reads_so c.handle.result c.args.place c.args.socket c.read_once.result _ _ _ c.args.self.now c.read_once.new.self c.handle.new.self c.requires.ready c.requires.at c.requires.wants c.read_once.ensures c.handle.ensures
