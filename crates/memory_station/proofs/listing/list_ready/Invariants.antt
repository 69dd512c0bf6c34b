use Rattle.std.proofs.Common.{◌≡◌, map, take}
use Rattle.memory_station.specs.Rows.{held_row}
use Rattle.memory_station.specs.HeldRows.{listing}
use Rattle.memory_station.proofs.listing.list_ready.Given as goal

abbrev pub invariant-loop-row : goal.invariant-loop-row
invariant-loop-row l = l.ready ≡ listing (map (held_row l.pieces.items) (take l.row-index l.rows.items))
