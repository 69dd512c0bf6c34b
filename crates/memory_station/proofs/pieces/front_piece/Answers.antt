use Rattle.std.proofs.Common.{◌<◌, length, rules}
use Rattle.memory_station.proofs.Fronts.{IsFront-here}
use Rattle.memory_station.proofs.pieces.front_piece.Goals as goal

pub returns-then-index-number : goal.returns-then-index-number
returns-then-index-number c =
    let k : c.loop-k.k < length c.args.pieces.now.items = search rules in
    IsFront-here c.args.pieces.now.items c.args.number c.args.from c.loop-k.k c.index.result.now k c.loop-k.auto.k c.index.ensures c.if-index-number.true c.loop-k.invariant
