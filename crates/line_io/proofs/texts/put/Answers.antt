use Rattle.std.proofs.Common.{arith, length, ◌<◌}
use Rattle.std.proofs.lemmas.Grind.{common_steps}
use Rattle.line_io.proofs.Writing.{underway_failed}
use Rattle.line_io.proofs.texts.put.Goals as goal

pub returns-in-Failed : goal.returns-in-Failed
returns-in-Failed g c =
    let some : 0 < length c.loop-rest.rest.now = grind (arith, common_steps) in
    underway_failed _ _ _ _ _ c.loop-rest.invariant some c.in-Failed.ensures.after
