use Rattle.station_mio.proofs.Coming.{CameSo}
use Rattle.station_mio.proofs.sockets.Sockets.accept_waiting.Given as goal

abbrev pub invariant-loop : goal.invariant-loop
invariant-loop g l = CameSo l.counter l.initial.ready l.ready l.initial.self l.self
