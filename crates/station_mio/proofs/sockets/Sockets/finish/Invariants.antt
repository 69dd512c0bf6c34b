use Rattle.std.proofs.Common.{◌≡◌}
use Rattle.station_mio.specs.Ending.{Finishes}
use Rattle.station_mio.proofs.sockets.Sockets.finish.Given as goal

abbrev pub invariant-loop : goal.invariant-loop
invariant-loop g l = Finishes l.fn.self.stands l.fn.self.asks l.self.asks × (l.self.next ≡ l.fn.self.next)
