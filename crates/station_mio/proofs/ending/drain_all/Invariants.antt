use Rattle.std.proofs.Common.{◌≤◌, length}
use Rattle.station_mio.specs.Ending.{Lingers}
use Rattle.station_mio.proofs.ending.drain_all.Given as goal

abbrev pub invariant-loop-place : goal.invariant-loop-place
invariant-loop-place g l = Lingers (g.H.Host.history l.initial.host) (g.H.Host.history l.host) × (l.place ≤ length l.rows)

abbrev pub decreases-loop-place : goal.decreases-loop-place
decreases-loop-place g l = l.place
