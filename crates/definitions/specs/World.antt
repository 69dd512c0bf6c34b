-- The grid world: a session's values, and which cells are open.
use Rattle.std.specs.Prelude.{ℕ, ◌+◌, ◌-◌, Bool, true, not, ◌&&◌, ◌||◌, List, [], ◌∷◌, map, length, nat_lt, ◌==◌, max, flat_map}
use Rattle.std.specs.List.{list_any, range_with_len}
use Rattle.definitions.specs.declared.world.Cell.{Cell}
use Rattle.definitions.specs.declared.world.Seat.{Seat}
use Rattle.definitions.specs.Lists.{item_or}

-- a rectangle of cells, some of which are walls, in row order
pub record Ground : Type 0 where
  pub width : ℕ
  pub height : ℕ
  pub walls : List Cell

-- the numbers of a session's text; how far a player walks and strikes is read from its seat
pub record Rules : Type 0 where
  pub speed : ℕ
  pub reach : ℕ
  pub blast : ℕ
  pub start_charge : ℕ
  pub cap : ℕ
  pub cost : ℕ

-- a session as the players see it
pub record Game : Type 0 where
  -- the version of its text
  pub version : ℕ
  -- the SHA-256 digest of its text
  pub id : List ℕ
  pub grid : Ground
  pub rules : Rules
  pub turns : ℕ
  -- how many turns ahead of its reveals a player commits
  pub ahead : ℕ
  pub seats : List Seat

-- the same cell
abbrev pub cell_eq : Cell → Cell → Bool
cell_eq a b = (a.x == b.x) && (a.y == b.y)

-- a list of cells has the cell
abbrev pub has_cell : List Cell → Cell → Bool
has_cell cells c = list_any (cell_eq c) cells

-- how far apart two numbers are
abbrev pub gap : ℕ → ℕ → ℕ
gap m n = (m - n) + (n - m)

-- the square distance of two cells
abbrev pub distance : Cell → Cell → ℕ
distance a b = max (gap a.x b.x) (gap a.y b.y)

-- a cell inside the grid
abbrev pub is_inside : Ground → Cell → Bool
is_inside grid c = nat_lt c.x grid.width && nat_lt c.y grid.height

-- a wall of the grid
abbrev pub is_wall : Ground → Cell → Bool
is_wall grid c = has_cell grid.walls c

-- inside the grid, and no wall
abbrev pub is_open : Ground → Cell → Bool
is_open grid c = is_inside grid c && not (is_wall grid c)

-- the cells of a row, from the left
unfoldable pub row_of : ℕ → ℕ → List Cell
row_of width y = map (λ x. record { x = x; y = y }) (range_with_len 0 width)

-- the cells of a grid of this width and height, in row order
unfoldable pub cells_in : ℕ → ℕ → List Cell
cells_in width height = flat_map (row_of width) (range_with_len 0 height)

-- all cells of the grid in row order
abbrev pub cells_of : Ground → List Cell
cells_of grid = cells_in grid.width grid.height

-- a seat that no player has
abbrev pub no_seat : Seat
no_seat = record { start = record { x = 0; y = 0 }; speed = 0; reach = 0 }

-- the player's seat
abbrev pub seat_of : Game → ℕ → Seat
seat_of game q = item_or game.seats q no_seat

-- how many players there are
abbrev pub players_of : Game → ℕ
players_of game = length game.seats

-- the cell comes before the other one in row order
abbrev pub is_before : Cell → Cell → Bool
is_before a b = nat_lt a.y b.y || ((a.y == b.y) && nat_lt a.x b.x)

-- the cell comes before the first of these, if there is one
abbrev pub is_before_first : Cell → List Cell → Bool
is_before_first c [] = true
is_before_first c (d ∷ ds) = is_before c d

-- in row order, without repeats
abbrev pub in_row_order : List Cell → Bool
in_row_order [] = true
in_row_order (c ∷ cs) = is_before_first c cs && in_row_order cs
