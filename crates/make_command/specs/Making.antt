-- Making: the session of a number, drawn by the number's generator.
use Rattle.std.specs.Prelude.{ℕ, zero, suc, ◌+◌, ◌/◌, ◌%◌, not, ◌&&◌, ◌==◌, List, [], ◌∷◌, ◌++◌, map, if◌then◌else◌}
use Rattle.sha2.specs.Sha256.{sha256}
use Rattle.rand_pcg.specs.Lcg.{Lcg}
use Rattle.definitions.specs.declared.world.Cell.{Cell}
use Rattle.definitions.specs.declared.world.Seat.{Seat}
use Rattle.definitions.specs.World.{Game, Rules, has_cell}
use Rattle.grid_world.specs.Text.{session_text}
use Rattle.pilots.specs.Draws.{draw, generator_of}

-- the grid is 64 by 64
abbrev pub side : ℕ
side = 64

abbrev pub cells : ℕ
cells = 4096

-- one cell in eight is a wall, on the whole
abbrev pub cells_a_wall : ℕ
cells_a_wall = 8

abbrev pub players : ℕ
players = 8

-- how far all walk and strike, and what a strike takes
abbrev pub made_rules : Rules
made_rules = record { speed = 2; reach = 2; blast = 1; start_charge = 2; cap = 6; cost = 3 }

-- the cell at this place in row order
abbrev pub cell_at : (place : ℕ) → Cell
cell_at place = record { x = place % side; y = place / side }

-- the walls, and the cell at this place if it is one, too: where 0 is drawn, and never the first cell
abbrev pub with_wall : List Cell → (place : ℕ) → (draw : ℕ) → List Cell
with_wall walls place d = if (d == 0) && not (place == 0) then walls ++ (cell_at place ∷ []) else walls

-- the walls among the first so many cells, and the generator behind their draws
unfoldable pub walls_of : (count : ℕ) → Lcg → List Cell × Lcg
walls_of zero g = ([], g)
walls_of (suc n) g =
    let before = walls_of n g in
    let d = draw cells_a_wall before.1 in
    (with_wall before.0 n d.0, d.1)

-- the place behind this one; behind the last one it is the first
abbrev pub place_behind : ℕ → ℕ
place_behind place = (place + 1) % cells

-- the first place from this one on whose cell is no wall, among so many
unfoldable pub open_place : List Cell → (count : ℕ) → (place : ℕ) → ℕ
open_place walls zero place = place
open_place walls (suc n) place = if has_cell walls (cell_at place) then open_place walls n (place_behind place) else place

-- where so many players start, and the generator behind their draws
unfoldable pub starts_of : List Cell → (count : ℕ) → Lcg → List Cell × Lcg
starts_of walls zero g = ([], g)
starts_of walls (suc k) g =
    let before = starts_of walls k g in
    let d = draw cells before.1 in
    (before.0 ++ (cell_at (open_place walls cells d.0) ∷ []), d.1)

-- the seat of a player that starts at this cell
abbrev pub seat_at : Cell → Seat
seat_at c = record { start = c; speed = made_rules.speed; reach = made_rules.reach }

-- the session with these walls and starts, whose id is still to come
unfoldable pub plain_game : (walls starts : List Cell) → Game
plain_game walls starts = record {
  version = 1;
  id = [];
  grid = record { width = side; height = side; walls = walls };
  rules = made_rules;
  turns = 200;
  ahead = 1;
  seats = map seat_at starts;
}

-- the session with the id of its text
abbrev pub with_id : Game → Game
with_id game = record game { id = sha256 (session_text game) }

-- the session of a number: first the walls are drawn, then the starts
unfoldable pub made_session : (number : ℕ) → Game
made_session number =
    let walls = walls_of cells (generator_of number) in
    with_id (plain_game walls.0 (starts_of walls.0 players walls.1).0)
