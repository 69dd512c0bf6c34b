use Rattle.std.proofs.Common.{◌-◌, length}
use Rattle.ready_loop.proofs.Made.{Making}
use Rattle.ready_loop.proofs.ready.Loop.keep_made.Given as goal

abbrev pub invariant-loop-self : goal.invariant-loop-self
invariant-loop-self g l = Making (g.S.Station.history l.fn.station) (g.S.Station.history l.station) l.fn.self l.self

abbrev pub decreases-loop-self : goal.decreases-loop-self
decreases-loop-self g l = length l.self.peer.entries - l.self.kept
