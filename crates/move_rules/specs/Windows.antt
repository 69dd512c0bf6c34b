-- Windows: the cells within a radius of a cell, as rows of bits, and what walks from that cell set there.
use Rattle.std.specs.Prelude.{◌≡◌, ℕ, ◌+◌, ◌-◌, ◌*◌, ◌==◌, Bool, ◌&&◌, ◌||◌, List, [], ◌∷◌, slice_index, nat_le, nat_lt}
use Rattle.std.specs.Int.{bit_at}
use Rattle.definitions.specs.declared.world.Cell.{Cell}
use Rattle.definitions.specs.World.{Ground, has_cell, is_open}
use Rattle.definitions.specs.Walk.{walked}

-- bit i of a word is 1, counted from the lowest
unfoldable pub is_set : ℕ → ℕ → Bool
is_set word i = bit_at word i == 1

-- the bit of column i in row r is 1; past the last row none is
unfoldable pub lit : List ℕ → ℕ → ℕ → Bool
lit rows i r = is_set (slice_index rows r) i

-- the test passes at a number or at one beside it
abbrev pub near : (ℕ → Bool) → ℕ → Bool
near p n = p (n - 1) || (p n || p (n + 1))

-- the test passes in column i of row r or at a place beside it, corners too
abbrev pub near_place : (ℕ → ℕ → Bool) → ℕ → ℕ → Bool
near_place p i r = near (λ n. near (λ m. p n m) r) i

-- the cell in column i of row r of the window of this radius round a cell, where that is on the plane
abbrev pub cell_at : Cell → ℕ → ℕ → ℕ → Cell
cell_at middle radius i r = record { x = middle.x + i - radius; y = middle.y + r - radius }

-- the place in column i of row r has a cell, that is, it is not left of column 0 or above row 0, and the cell passes
unfoldable pub shows : Cell → ℕ → (Cell → Bool) → ℕ → ℕ → Bool
shows middle radius p i r = nat_le radius (middle.x + i) && (nat_le radius (middle.y + r) && p (cell_at middle radius i r))

-- the bits are the open cells of the window
pub record ShowsOpen (grid : Ground) (middle : Cell) (radius : ℕ) (rows : List ℕ) : Type 0 where
  pub bits : (i r : ℕ) → lit rows i r ≡ (nat_lt r (2 * radius + 1) && (nat_lt i (2 * radius + 1) && shows middle radius (is_open grid) i r))

-- the bits are the cells to which a walk of k steps leads from the middle of the window
pub record ShowsWalk (grid : Ground) (middle : Cell) (radius k : ℕ) (rows : List ℕ) : Type 0 where
  pub bits : (i r : ℕ) → lit rows i r ≡ shows middle radius (has_cell (walked grid k (middle ∷ []))) i r
