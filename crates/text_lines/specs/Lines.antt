-- Lines of a text: how one is spelled, and what one says.
use Rattle.std.specs.Prelude.{ℕ, suc, Bool, List, [], ◌∷◌, ◌++◌, take, drop, Option, Some, None, ◌==◌, if◌then◌else◌, bytes_eq, codes, option_map, nat_le, ◌&&◌}
use Rattle.std.specs.Fmt.{decimal}
use Rattle.byte_fields.specs.Fronts.{◌>>=◌, behind}
use Rattle.byte_fields.specs.Numbers.{digits_len, number_of}

-- the numbers of a line, each behind one space, and the LF that ends it
abbrev pub fields_of : List ℕ → List ℕ
fields_of [] = codes "\n"
fields_of (n ∷ numbers) = 32 ∷ decimal n ++ fields_of numbers

-- a line: its name and its numbers
abbrev pub line_of : List ℕ → List ℕ → List ℕ
line_of name numbers = name ++ fields_of numbers

-- these lines, one behind the other
abbrev pub joined : List (List ℕ) → List ℕ
joined [] = []
joined (line ∷ lines) = line ++ joined lines

-- the byte in front of the first of these lines
abbrev pub onto_first : ℕ → List (List ℕ) → List (List ℕ)
onto_first b [] = (b ∷ []) ∷ []
onto_first b (line ∷ lines) = (b ∷ line) ∷ lines

-- the lines of a text, each with the LF that ends it; the last one may lack it
unfoldable pub ended_lines_of : List ℕ → List (List ℕ)
ended_lines_of [] = []
ended_lines_of (b ∷ text) = if b == 10 then (10 ∷ []) ∷ ended_lines_of text else onto_first b (ended_lines_of text)

-- how many bytes the first line has, its LF counted
abbrev pub line_len : List ℕ → ℕ
line_len [] = 0
line_len (b ∷ text) = if b == 10 then 1 else suc (line_len text)

-- a number's value, and what stands behind its digits
abbrev pub number_at : List ℕ → Option (ℕ × List ℕ)
number_at text = option_map (λ n. (n, drop (digits_len text) text)) (number_of (take (digits_len text) text))

-- the number behind one space, and what stands behind it
unfoldable pub field_at : List ℕ → Option (ℕ × List ℕ)
field_at [] = None
field_at (b ∷ text) = if b == 32 then number_at text else None

-- nothing but the line's end is left
abbrev pub is_ended : List ℕ → Bool
is_ended rest = bytes_eq rest (codes "\n")

-- whether it is the line of this name that has no number
abbrev pub is_bare : List ℕ → List ℕ → Bool
is_bare name line = bytes_eq line (name ++ codes "\n")

-- the number of a line of this name that has one
unfoldable pub one_of : List ℕ → List ℕ → Option ℕ
one_of name line = do
  rest ← behind name line
  a ← field_at rest
  if is_ended a.1 then Some a.0 else None

-- the number is one of these
abbrev pub is_within : (low high : ℕ) → ℕ → Bool
is_within low high n = nat_le low n && nat_le n high

-- the number, if it is one of these
abbrev pub kept_within : (low high : ℕ) → Option ℕ → Option ℕ
kept_within low high None = None
kept_within low high (Some n) = if is_within low high n then Some n else None

-- the number of a line of this name that has one, from low to high
abbrev pub one_within : List ℕ → (low high : ℕ) → List ℕ → Option ℕ
one_within name low high line = kept_within low high (one_of name line)

-- the numbers of a line of this name that has two
unfoldable pub two_of : List ℕ → List ℕ → Option (ℕ × ℕ)
two_of name line = do
  rest ← behind name line
  a ← field_at rest
  b ← field_at a.1
  if is_ended b.1 then Some (a.0, b.0) else None

-- the numbers of a line of this name that has three
unfoldable pub three_of : List ℕ → List ℕ → Option (ℕ × ℕ × ℕ)
three_of name line = do
  rest ← behind name line
  a ← field_at rest
  b ← field_at a.1
  c ← field_at b.1
  if is_ended c.1 then Some (a.0, b.0, c.0) else None

-- the numbers of a line of this name that has three, and the two behind them, if there are two more
unfoldable pub three_or_five_of : List ℕ → List ℕ → Option ((ℕ × ℕ × ℕ) × Option (ℕ × ℕ))
three_or_five_of name line = do
  rest ← behind name line
  a ← field_at rest
  b ← field_at a.1
  c ← field_at b.1
  if is_ended c.1 then Some ((a.0, b.0, c.0), None) else (do
    d ← field_at c.1
    e ← field_at d.1
    if is_ended e.1 then Some ((a.0, b.0, c.0), Some (d.0, e.0)) else None)
