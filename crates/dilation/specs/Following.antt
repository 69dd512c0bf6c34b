-- Following: what holds of the sets that are kept of the players.
use Rattle.std.specs.Prelude.{◌≡◌, ℕ, ◌*◌, ◌<◌, ◌≤◌, true, false, List, [], ◌∷◌, length}
use Rattle.definitions.specs.declared.world.Cell.{Cell}
use Rattle.definitions.specs.Lists.{item_or}
use Rattle.definitions.specs.World.{Ground, Game, players_of, seat_of}
use Rattle.definitions.specs.Walk.{stepped, walked}
use Rattle.cell_set.specs.Regions.{IsSizeOf}
use Rattle.dilation.specs.declared.growth.Kept.{Kept}
use Rattle.dilation.specs.Dilated.{AreSeen, Dilated, cell_of, none_kept, turns_of}

-- the set has the grid's size and the cells to which walks of so many steps lead from this one; where it is called full, a
-- step more adds none
pub record IsFollowed (grid : Ground) (cell : Cell) (steps : ℕ) (kept : Kept) : Type 0 where
  pub size : IsSizeOf grid kept.reached
  pub cells : kept.reached.cells ≡ walked grid steps (cell ∷ [])
  pub full : kept.full ≡ true → stepped grid kept.reached.cells ≡ kept.reached.cells

-- the set of a player that was last seen at this cell: it was followed for no more turns than are played, by its own speed
pub record IsKept (game : Game) (player : ℕ) (cell : Cell) (kept : Kept) : Type 0 where
  pub within : kept.turns ≤ game.turns
  pub followed : IsFollowed game.grid cell (kept.turns * (seat_of game player).speed) kept

-- a set that no player has
abbrev pub no_kept : Kept
no_kept = record { turns = 0; full = false; reached = record { width = 0; height = 0; cells = [] } }

-- the set at each place is that of the player of this number, who was last seen at the cell of the same place
abbrev pub AreKept : Game → List Cell → List Kept → Type 0
AreKept game cells kept = (q : ℕ) → q < length cells → IsKept game q (cell_of cells q) (item_or kept q no_kept)

-- the players are seen, and each is followed from its cell
pub record IsDilated (game : Game) (cells : List Cell) (kept : List Kept) : Type 0 where
  pub seen : AreSeen game cells
  pub one_each : length kept ≡ players_of game
  pub each_kept : AreKept game cells kept

-- the dilation was made for this session
abbrev pub IsDilationOf : Game → Dilated → Type 0
IsDilationOf game d = IsDilated game d.cells d.kept

-- each of these cells has a set, which was followed from it for no turn yet
pub record AreFresh (game : Game) (cells : List Cell) (kept : List Kept) : Type 0 where
  pub one_each : length kept ≡ length cells
  pub each_kept : AreKept game cells kept
  pub turns : turns_of kept ≡ none_kept cells
