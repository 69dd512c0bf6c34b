-- Numbers: a number that a text is, and one at the front of a text.
use Rattle.std.specs.Prelude.{ℕ, ◌+◌, List, length, drop, Option, Some, None, nat_lt, nat_le, slice_index, ◌==◌, ◌&&◌, if◌then◌else◌}
use Rattle.byte_fields.specs.declared.numbers.Number.{Number}
use Rattle.byte_fields.specs.Standing.{number_at}

-- the number at the front, where it is at most the limit and nothing stands behind it
abbrev pub alone_in : (limit : ℕ) → List ℕ → Option Number → Option ℕ
alone_in limit text None = None
alone_in limit text (Some n) = if nat_le n.value limit && (n.end == length text) then Some n.value else None

-- the number that the text is, in its one form, where it is at most the limit
unfoldable pub number_of : (limit : ℕ) → List ℕ → Option ℕ
number_of limit text = alone_in limit text (number_at text 0)

-- the number at the front, where it is at most the limit and a space stands behind it, and what stands behind that
abbrev pub before_space : (limit : ℕ) → List ℕ → Option Number → Option (ℕ × List ℕ)
before_space limit text None = None
before_space limit text (Some n) =
    if nat_le n.value limit && nat_lt n.end (length text) && (slice_index text n.end == 32) then Some (n.value, drop (n.end + 1) text) else None

-- a number up to the limit before a space, and what stands behind that
unfoldable pub number_then : (limit : ℕ) → List ℕ → Option (ℕ × List ℕ)
number_then limit text = before_space limit text (number_at text 0)
