use Rattle.ready_loop.proofs.CallsIn.{cleared_state}
use Rattle.ready_loop.proofs.ready.Loop.clear.Goals as goal

pub returns : goal.returns
returns c = cleared_state _ c.args.self.now c.clear_waiting.new.self c.self.view_is c.clear_waiting.ensures
