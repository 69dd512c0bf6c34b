use Rattle.dilation.proofs.Followed.{followed_open, followed_more}
use Rattle.dilation.proofs.growth.grow_once.Goals as goal

pub grow_walk-requires-clause-open : goal.grow_walk-requires-clause-open
grow_walk-requires-clause-open g c = followed_open c.args.grid.now c.args._cell c.args._step c.args.kept.now c.requires.followed

pub returns-clause-followed : goal.returns-clause-followed
returns-clause-followed g c =
    followed_more c.args.grid.now c.args._cell c.args._step c.args.kept.now.turns c.args.kept.now c.grow_walk.new.self c.grow_walk.result
    c.requires.followed c.grow_walk.ensures.cells c.grow_walk.ensures.change
