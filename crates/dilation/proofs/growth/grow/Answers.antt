use Rattle.std.proofs.Common.{arith}
use Rattle.dilation.proofs.Followed.{followed_full}
use Rattle.dilation.proofs.growth.grow.Goals as goal

pub returns-then-kept-clause-followed : goal.returns-then-kept-clause-followed
returns-then-kept-clause-followed g c =
    followed_full c.args.grid.now c.args._cell c.loop-step.step c.args.to c.loop-step.kept c.loop-step.invariant.followed c.if-kept.true (omega arith)
