use Rattle.std.proofs.Common.{◌<◌, ◌≤◌, ◌-◌, List, ℕ, Option, length}
use Rattle.station.specs.Since.{since}
use Rattle.station.specs.Pieces.{AllGive}
use Rattle.line_io.proofs.Pieces.{Fetching, Fronted}
use Rattle.line_io.proofs.fronts.read_front.Given as goal

abbrev pub invariant-chunks : goal.invariant-chunks
invariant-chunks g l = record {
  fetching : Fetching (g.H.Shelf.state l.initial.shelf) (g.H.Shelf.state l.shelf) l.name (length l.text.items);
  front : (content : Option (List ℕ)) → AllGive content (since (g.H.Shelf.state l.initial.shelf).pieces (g.H.Shelf.state l.shelf).pieces) → Fronted content l.text.items;
  short : length l.text.items ≤ l.limit;
  room : 0 < length l.chunk.items;
}

abbrev pub decreases-chunks : goal.decreases-chunks
decreases-chunks g l = l.limit - length l.text.items
