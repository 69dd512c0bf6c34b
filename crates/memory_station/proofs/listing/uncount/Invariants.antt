use Rattle.std.proofs.Common.{◌≡◌, ◌++◌, map, take, drop}
use Rattle.memory_station.specs.Rows.{row_uncounted}
use Rattle.memory_station.proofs.listing.uncount.Given as goal

abbrev pub invariant-loop-row : goal.invariant-loop-row
invariant-loop-row l = l.row-items ≡ map row_uncounted (take l.row-index l.initial.row-items) ++ drop l.row-index l.initial.row-items
