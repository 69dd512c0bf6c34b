use Rattle.std.proofs.Common.{ap, arith}
use Rattle.definitions.specs.World as world
use Rattle.influence.proofs.Grown.{struck_is}
use Rattle.influence.proofs.sphere.grow_strike.Goals as goal

pub returns : goal.returns
returns c =
    struck_is c.args.session.now c.args.player _ c.args.set.now _ c.requires.size
    (let e = ap (λ (r : world.Rules). r.blast) c.rules.ensures.value in omega arith)
    c.grow_square.ensures
