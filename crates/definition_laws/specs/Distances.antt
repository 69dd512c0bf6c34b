-- Laws on distances: legal moves, spheres and meetings in the words of walks and distances.
use Rattle.std.specs.Prelude.{ℕ, ◌+◌, ◌-◌, ◌*◌, ◌≤◌, ◌↔◌, List, Option, None, Some, IsTrue}
use Rattle.definitions.specs.declared.world.Cell.{Cell}
use Rattle.definitions.specs.declared.world.Move.{Move}
use Rattle.definitions.specs.declared.world.Track.{Track}
use Rattle.definitions.specs.declared.logs.Entry.{Entry}
use Rattle.definitions.specs.World.{Game, distance, has_cell, is_inside, seat_of}
use Rattle.definitions.specs.Walk.{Walk}
use Rattle.definitions.specs.Sphere.{in_sphere}
use Rattle.definitions.specs.Moves.{IsLegal, track_after}
use Rattle.definitions.specs.Held.{known, resolved_count}
use Rattle.definitions.specs.Meets.{cell_before, meets}

-- a strike, where there is one, is inside the grid, within reach of where the move ends, and paid by the charge
abbrev pub IsLegalStrike : Game → ℕ → Track → Cell → Option Cell → Type 0
IsLegalStrike game q track to None = Unit {0}
IsLegalStrike game q track to (Some c) =
    IsTrue (is_inside game.grid c) × (distance c to ≤ (seat_of game q).reach) × (game.rules.cost ≤ track.charge)

-- a walk of the player's speed leads from the track's cell to the move's, and its strike is legal
pub record IsLegalMove (game : Game) (q : ℕ) (track : Track) (m : Move) : Type 0 where
  pub walk : Walk game.grid (seat_of game q).speed track.at m.to
  pub strike : IsLegalStrike game q track m.to m.strike

-- a move is legal exactly where its walk and its strike are
abbrev pub LegalMovesAreWalks : Type 0
LegalMovesAreWalks = (game : Game) (q : ℕ) (track : Track) (m : Move) → IsLegal game q track m ↔ IsLegalMove game q track m

-- the cell at which the player stands after its last resolved move
abbrev pub last_cell : Game → ℕ → List Entry → ℕ → Cell
last_cell game me h q = (track_after game q (known game me h q).moves).at

-- a walk of a turn leads from one of the cells to where the player can reach and blast the cell, which is inside the grid
pub record IsInSphere (game : Game) (q : ℕ) (cells : List Cell) (c : Cell) : Type 0 where
  pub from : Cell
  pub to : Cell
  pub begins : IsTrue (has_cell cells from)
  pub walk : Walk game.grid (seat_of game q).speed from to
  pub inside : IsTrue (is_inside game.grid c)
  pub near : distance to c ≤ (seat_of game q).reach + game.rules.blast

-- a walk of the owner's turn, and one of the other's from its last resolved cell through this turn, end where both can
-- reach and blast one cell of the grid
pub record IsMeeting (game : Game) (me : ℕ) (h : List Entry) (q t : ℕ) : Type 0 where
  pub unresolved : resolved_count game me h q ≤ t
  pub own_end : Cell
  pub other_end : Cell
  pub common : Cell
  pub own_walk : Walk game.grid (seat_of game me).speed (cell_before game me h me t) own_end
  pub other_walk : Walk game.grid ((t - resolved_count game me h q) * (seat_of game q).speed + (seat_of game q).speed) (last_cell game me h q) other_end
  pub inside : IsTrue (is_inside game.grid common)
  pub own_near : distance own_end common ≤ (seat_of game me).reach + game.rules.blast
  pub other_near : distance other_end common ≤ (seat_of game q).reach + game.rules.blast

-- a sphere has the cells that a walk of a turn and a distance reach
abbrev pub SpheresAreDistances : Type 0
SpheresAreDistances = (game : Game) (q : ℕ) (cells : List Cell) (c : Cell) → IsTrue (in_sphere game q cells c) ↔ IsInSphere game q cells c

-- another player meets the owner exactly where their walks can end within reach and blast of one cell
abbrev pub MeetingsAreDistances : Type 0
MeetingsAreDistances = (game : Game) (me q t : ℕ) (h : List Entry) → IsTrue (meets game me h q t) ↔ IsMeeting game me h q t
