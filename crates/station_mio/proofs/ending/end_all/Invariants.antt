use Rattle.std.proofs.Common.{◌≡◌, take}
use Rattle.station_mio.specs.Ending.{EndsAll}
use Rattle.station_mio.proofs.ending.end_all.Given as goal

abbrev pub invariant-loop-place : goal.invariant-loop-place
invariant-loop-place g l =
    EndsAll (take l.place l.initial.rows) (g.H.Host.history l.initial.host) (g.H.Host.history l.host) × (l.rows ≡ l.initial.rows)
