use Rattle.station_mio.specs.Ending.{Lingers}
use Rattle.station_mio.proofs.ending.drain.Given as goal

abbrev pub invariant-loop : goal.invariant-loop
invariant-loop g l = Lingers (g.H.Host.history l.initial.host) (g.H.Host.history l.host)
