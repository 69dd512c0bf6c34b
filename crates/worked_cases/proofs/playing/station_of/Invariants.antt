use Rattle.std.proofs.Common.{◌≡◌, []}
use Rattle.worked_cases.proofs.playing.station_of.Given as goal

abbrev pub invariant-sockets : goal.invariant-sockets
invariant-sockets l = l.station.memory.book.history ≡ []

abbrev pub invariant-dialled : goal.invariant-dialled
invariant-dialled l = l.station.memory.book.history ≡ []
