-- Walks: steps between open cells, and the cells that they lead to.
use Rattle.std.specs.Prelude.{◌≡◌, ℕ, zero, suc, ◌*◌, Bool, ◌&&◌, List, [], ◌∷◌, filter, nat_le, IsTrue}
use Rattle.std.specs.List.{list_any}
use Rattle.definitions.specs.declared.world.Cell.{Cell}
use Rattle.definitions.specs.World.{Ground, Game, is_open, distance, cells_of, has_cell, seat_of}

-- one stays, or goes to one of the eight neighbours: from an open cell to an open cell
abbrev pub is_step : Ground → Cell → Cell → Bool
is_step grid a b = is_open grid a && is_open grid b && nat_le (distance a b) 1

-- a walk of k steps leads from a to b
abbrev pub Walk : Ground → ℕ → Cell → Cell → Type 0
Walk grid zero a b = (a ≡ b) × IsTrue (is_open grid a)
Walk grid (suc k) a b = (c : Cell) × Walk grid k a c × IsTrue (is_step grid c b)

-- the open cells that are one step from one of these
unfoldable pub stepped : Ground → List Cell → List Cell
stepped grid cells = filter (λ c. list_any (λ b. is_step grid b c) cells) (cells_of grid)

-- the cells to which a walk of k steps leads from one of these, in row order
unfoldable pub walked : Ground → ℕ → List Cell → List Cell
walked grid zero cells = filter (λ c. is_open grid c && has_cell cells c) (cells_of grid)
walked grid (suc k) cells = stepped grid (walked grid k cells)

-- a walk of k steps leads from a to b
unfoldable pub reaches : Ground → ℕ → Cell → Cell → Bool
reaches grid k a b = has_cell (walked grid k (a ∷ [])) b

-- the cells that the player can be at, k turns after it stood on one of these
abbrev pub reach_of : Game → ℕ → ℕ → List Cell → List Cell
reach_of game q k cells = walked game.grid (k * (seat_of game q).speed) cells

-- the player can go from a to b within a turn
abbrev pub in_reach : Game → ℕ → Cell → Cell → Bool
in_reach game q a b = has_cell (reach_of game q 1 (a ∷ [])) b
