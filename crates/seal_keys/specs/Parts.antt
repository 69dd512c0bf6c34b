-- Parts: byte strings of several parts, one behind the other.
use Rattle.std.specs.Prelude.{ℕ, zero, suc, ◌*◌, List, [], ◌++◌, take, drop}

-- what the function gives of the numbers below n, one behind the other
unfoldable pub joined_below : (ℕ → List ℕ) → ℕ → List ℕ
joined_below f zero = []
joined_below f (suc n) = joined_below f n ++ f n

-- the 32 bytes of this number, counted from 0, where the bytes are parted so
abbrev pub part_of : List ℕ → ℕ → List ℕ
part_of bytes j = take 32 (drop (32 * j) bytes)
