-- Grids: what holds of each, and its walls as rows of bits.
use Rattle.std.specs.Prelude.{◌≡◌, ℕ, Bool, ◌+◌, ◌*◌, ◌/◌, ◌%◌, ◌<◌, ◌≤◌, ◌==◌, List, length, IsTrue, slice_index}
use Rattle.std.specs.Int.{bit_at}
use Rattle.definitions.specs.declared.limits.TheConstants.{WIDEST_SIDE}
use Rattle.definitions.specs.Lists.{EachIs}
use Rattle.definitions.specs.World.{Ground, is_inside, is_wall, in_row_order}

-- a grid that a session may have
pub record IsGrid (grid : Ground) : Type 0 where
  pub width : (1 ≤ grid.width) × (grid.width ≤ WIDEST_SIDE)
  pub height : (1 ≤ grid.height) × (grid.height ≤ WIDEST_SIDE)
  -- in row order, none twice
  pub walls : IsTrue (in_row_order grid.walls)
  pub inside : EachIs (λ c. IsTrue (is_inside grid c)) grid.walls

-- how many words of 64 bits hold a bit for each cell of a row
abbrev pub words_of : ℕ → ℕ
words_of width = (width + 63) / 64

-- whether bit x of these words is 1, the bits of a word counted from its lowest
abbrev pub has_bit : List ℕ → ℕ → Bool
has_bit row x = bit_at (slice_index row (x / 64)) (x % 64) == 1

-- the words of the rows, one row after another: a bit is 1 exactly where its cell is a wall
pub record AreRowsOf (grid : Ground) (rows : List ℕ) : Type 0 where
  pub len : length rows ≡ grid.height * words_of grid.width
  pub bits : (x y : ℕ) → x < 64 * words_of grid.width → y < grid.height
      → (bit_at (slice_index rows (y * words_of grid.width + x / 64)) (x % 64) == 1) ≡ is_wall grid (record { x = x; y = y })
