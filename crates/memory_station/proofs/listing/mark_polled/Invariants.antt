use Rattle.std.proofs.Common.{◌≡◌, ◌++◌, map, take, drop}
use Rattle.memory_station.specs.Rows.{polled_row}
use Rattle.memory_station.proofs.listing.mark_polled.Given as goal

abbrev pub invariant-loop-row : goal.invariant-loop-row
invariant-loop-row l = l.row-items ≡ map (polled_row l.ready) (take l.row-index l.initial.row-items) ++ drop l.row-index l.initial.row-items
