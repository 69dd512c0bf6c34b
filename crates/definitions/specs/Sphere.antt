-- Spheres of influence: what a player can affect in a turn.
use Rattle.std.specs.Prelude.{ℕ, ◌+◌, Bool, List, filter, nat_le}
use Rattle.std.specs.List.{list_any}
use Rattle.definitions.specs.declared.world.Cell.{Cell}
use Rattle.definitions.specs.World.{Ground, Game, distance, cells_of, has_cell, seat_of}
use Rattle.definitions.specs.Walk.{reach_of}

-- the cells of the grid, walls too, within this square distance of one of these
unfoldable pub spread : Ground → ℕ → List Cell → List Cell
spread grid radius cells = filter (λ c. list_any (λ b. nat_le (distance b c) radius) cells) (cells_of grid)

-- what a player that stands on one of these cells can affect in a turn
abbrev pub sphere_of : Game → ℕ → List Cell → List Cell
sphere_of game q cells = spread game.grid ((seat_of game q).reach + game.rules.blast) (reach_of game q 1 cells)

-- a cell of that sphere
abbrev pub in_sphere : Game → ℕ → List Cell → Cell → Bool
in_sphere game q cells c = has_cell (sphere_of game q cells) c

-- two lists have a cell in common
abbrev pub have_common : List Cell → List Cell → Bool
have_common cells others = list_any (has_cell others) cells
