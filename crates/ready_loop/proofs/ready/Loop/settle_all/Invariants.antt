use Rattle.ready_loop.specs.Going.{undialled}
use Rattle.own_moves.specs.Choices.{chooser}
use Rattle.ready_loop.proofs.Passing.{Settling}
use Rattle.ready_loop.proofs.ready.Loop.settle_all.Given as goal

abbrev pub invariant-loop-dialled : goal.invariant-loop-dialled
invariant-loop-dialled g l = Settling (chooser (g.P.Pilot.plan l.fn.pilot) (g.R.Rng.stream l.fn.chance)) (chooser (g.P.Pilot.plan l.pilot) (g.R.Rng.stream l.chance)) (g.S.Station.history l.fn.station) (g.S.Station.history l.station) l.fn.self l.self

abbrev pub decreases-loop-dialled : goal.decreases-loop-dialled
decreases-loop-dialled g l = undialled l.self
