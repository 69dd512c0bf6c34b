use Rattle.std.proofs.Common.{◌≡◌, drop}
use Rattle.memory_station.specs.Rows.{pieces_at}
use Rattle.memory_station.proofs.pieces.front_piece.Given as goal

abbrev pub invariant-loop-k : goal.invariant-loop-k
invariant-loop-k l = pieces_at l.number (drop l.fn.from l.pieces.items) ≡ pieces_at l.number (drop l.k l.pieces.items)
