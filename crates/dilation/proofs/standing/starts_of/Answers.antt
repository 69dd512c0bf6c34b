use Rattle.std.proofs.Common.{◌∙◌, arith}
use Rattle.dilation.proofs.Seats.{start_more, starts_all}
use Rattle.dilation.proofs.standing.starts_of.Goals as goal

pub loop-player-preserved : goal.loop-player-preserved
loop-player-preserved c = start_more c.args.session.now c.loop-player.player _ _ _ (omega arith) c.start.ensures.value c.loop-player.invariant c.in_ok-push.ensures.items

pub returns : goal.returns
returns c = c.loop-player.invariant ∙ starts_all c.args.session.now c.loop-player.player (omega arith)
