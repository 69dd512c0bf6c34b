use Rattle.std.proofs.Common.{◌≡◌, drop}
use Rattle.socket_station.specs.Standings.{opens}
use Rattle.memory_station.proofs.listing.opens_in.Given as goal

abbrev pub invariant-loop-item : goal.invariant-loop-item
invariant-loop-item l = opens l.ready l.number ≡ opens (drop l.item-index l.ready) l.number
