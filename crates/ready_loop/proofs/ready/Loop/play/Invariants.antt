use Rattle.own_moves.specs.Choices.{chooser}
use Rattle.ready_loop.proofs.Runs.{Running}
use Rattle.ready_loop.proofs.ready.Loop.play.Given as goal

abbrev pub invariant-loop-left : goal.invariant-loop-left
invariant-loop-left g l = Running (chooser (g.P.Pilot.plan l.fn.pilot) (g.R.Rng.stream l.fn.chance)) (chooser (g.P.Pilot.plan l.pilot) (g.R.Rng.stream l.chance)) l.polls l.left (g.S.Station.history l.fn.station) (g.S.Station.history l.station) l.fn.self l.self

abbrev pub decreases-loop-left : goal.decreases-loop-left
decreases-loop-left g l = l.left
