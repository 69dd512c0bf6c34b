use Rattle.std.proofs.Common.{◌-◌}
use Rattle.ready_loop.proofs.Began.{Taking}
use Rattle.ready_loop.proofs.ready.Loop.keep_over.Given as goal

abbrev pub invariant-loop-self : goal.invariant-loop-self
invariant-loop-self g l = Taking (g.S.Station.history l.fn.station) (g.S.Station.history l.station) l.fn.self l.self

abbrev pub decreases-loop-self : goal.decreases-loop-self
decreases-loop-self g l = l.self.over - l.self.kept
