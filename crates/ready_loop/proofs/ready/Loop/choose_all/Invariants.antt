use Rattle.std.proofs.Common.{◌-◌, length}
use Rattle.definitions.specs.Logs.{chosen}
use Rattle.own_moves.specs.Choices.{chooser}
use Rattle.ready_loop.proofs.Choosing.{Choosing}
use Rattle.ready_loop.proofs.ready.Loop.choose_all.Given as goal

abbrev pub invariant-loop-self : goal.invariant-loop-self
invariant-loop-self g l = Choosing (chooser (g.P.Pilot.plan l.fn.pilot) (g.R.Rng.stream l.fn.chance)) (chooser (g.P.Pilot.plan l.pilot) (g.R.Rng.stream l.chance)) (g.S.Station.history l.fn.station) (g.S.Station.history l.station) l.fn.self l.self

abbrev pub decreases-loop-self : goal.decreases-loop-self
decreases-loop-self g l = l.self.peer.game.turns - length (chosen l.self.peer.me l.self.peer.entries)
