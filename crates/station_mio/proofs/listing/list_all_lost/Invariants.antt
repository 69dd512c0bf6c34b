use Rattle.std.proofs.Common.{◌≡◌, take}
use Rattle.station_mio.specs.Listing.{listed_all_lost}
use Rattle.station_mio.proofs.listing.list_all_lost.Given as goal

abbrev pub invariant-loop-row : goal.invariant-loop-row
invariant-loop-row g l = l.ready ≡ listed_all_lost l.initial.ready (take l.row-index l.rows)
