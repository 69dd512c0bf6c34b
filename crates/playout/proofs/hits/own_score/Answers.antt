use Rattle.std.proofs.Common.{arith}
use Rattle.playout.proofs.Counting.{none_plus, own_more, own_all}
use Rattle.playout.proofs.hits.own_score.Goals as goal

pub loop-player-init : goal.loop-player-init
loop-player-init c = record { all = none_plus _; given = omega arith; taken = omega arith }

pub loop-player-preserved : goal.loop-player-preserved
loop-player-preserved c = record {
  all = own_more _ c.args.me c.from-at.result _ c.loop-player.player c.args.others.now _ c.loop-player.score _ _ c.from-at.ensures c.loop-player-test.true c.with_move-score.ensures.exact c.loop-player.invariant.all;
  given = omega arith;
  taken = omega arith;
}

pub returns-clause-exact : goal.returns-clause-exact
returns-clause-exact c = own_all _ c.args.me _ c.loop-player.player c.args.others.now c.loop-player.score _ c.loop-player-test.false c.loop-player.invariant.all
