use Rattle.std.proofs.Common.{refl}
use Rattle.ready_loop.proofs.CallsOut.{shut_open, shut_so}
use Rattle.ready_loop.proofs.ready.Loop.shut.Goals as goal

pub shut-requires : goal.shut-requires
shut-requires g c = shut_open _ c.args.self.now c.args.place c.args.socket c.requires.at c.requires.serving c.requires.asks

pub returns : goal.returns
returns g c = shut_so _ _ _ c.args.self.now _ c.args.place c.args.socket c.close.new.self c.self.view_is c.requires.serving c.requires.at c.requires.asks c.shut.ensures c.close.ensures refl
