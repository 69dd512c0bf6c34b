-- Fields: numbers, addresses and passes at the front of a text, each before a mark.
use Rattle.std.specs.Prelude.{ℕ, ◌+◌, Bool, ◌&&◌, ◌==◌, List, [], ◌∷◌, length, take, drop, Option, Some, None, nat_le, nat_lt, slice_index, if◌then◌else◌}
use Rattle.byte_fields.specs.declared.numbers.Number.{Number}
use Rattle.byte_fields.specs.Fronts.{◌>>=◌, behind}
use Rattle.byte_fields.specs.Standing.{number_at}
use Rattle.text_fields.specs.Hexes.{bytes_of}
use Rattle.rosters.specs.Addrs.{Addr}

-- the byte at this place is the mark
abbrev pub is_marked : (mark place : ℕ) → List ℕ → Bool
is_marked mark place text = nat_lt place (length text) && (slice_index text place == mark)

-- the number at the front, where it is at most the limit and the mark stands behind it, and what stands behind that
abbrev pub before_mark : (mark limit : ℕ) → List ℕ → Option Number → Option (ℕ × List ℕ)
before_mark mark limit text None = None
before_mark mark limit text (Some n) = if nat_le n.value limit && is_marked mark n.end text then Some (n.value, drop (n.end + 1) text) else None

-- a number up to the limit before the mark, and what stands behind that
unfoldable pub number_then : (mark limit : ℕ) → List ℕ → Option (ℕ × List ℕ)
number_then mark limit text = before_mark mark limit text (number_at text 0)

abbrev pub dot : ℕ
dot = 46

abbrev pub space : ℕ
space = 32

-- the end of a line
abbrev pub line_end : ℕ
line_end = 10

-- `A.B.C.D PORT` before the mark, and what stands behind that
unfoldable pub addr_then : (mark : ℕ) → List ℕ → Option (Addr × List ℕ)
addr_then mark text = do
  a ← number_then dot 255 text
  b ← number_then dot 255 a.1
  c ← number_then dot 255 b.1
  d ← number_then space 255 c.1
  port ← number_then mark 65535 d.1
  if nat_le 1 port.0 then Some (record { ip = a.0 ∷ b.0 ∷ c.0 ∷ d.0 ∷ []; port = port.0 }, port.1) else None

-- a pass of 32 digits before the mark, and what stands behind that
unfoldable pub pass_then : (mark : ℕ) → List ℕ → Option (List ℕ × List ℕ)
pass_then mark text = do
  rest ← behind (mark ∷ []) (drop 32 text)
  pass ← bytes_of (take 32 text)
  Some (pass, rest)
