use Rattle.std.proofs.Common.{ap}
use Rattle.peer_core.specs.declared.views.PlayerView.{PlayerView}
use Rattle.ready_loop.proofs.CallsIn.{ask_may, ask_fits}
use Rattle.ready_loop.proofs.ready.Loop.ask.Goals as goal

pub ask-requires : goal.ask-requires
ask-requires c = ask_may _ c.self.inside.writer c.args.player _ c.self.invariant (ap (λ (v : PlayerView). v.next) c.player-next.ensures)

pub invariant_of-self : goal.invariant_of-self
invariant_of-self c = ask_fits _ c.self.inside.writer c.args.player _ c.ask.new.self c.self.invariant c.ask.ensures
