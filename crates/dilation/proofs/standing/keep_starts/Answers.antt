use Rattle.std.proofs.Common.{arith}
use Rattle.dilation.proofs.Reached.{fresh_more}
use Rattle.dilation.proofs.standing.keep_starts.Goals as goal

pub loop-player-preserved : goal.loop-player-preserved
loop-player-preserved c =
    fresh_more c.args.session.now c.loop-player.player c.loop-player.kept.items _ _ (omega arith) c.loop-player.invariant
    c.in_ok-keep.ensures.kept c.in_ok-keep.ensures.turns c.in_ok-push.ensures.items
