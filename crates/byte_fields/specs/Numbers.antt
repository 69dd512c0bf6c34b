-- Numbers: the decimal digits at the front of a text, and the number that they spell.
use Rattle.std.specs.Prelude.{ℕ, suc, ◌+◌, ◌-◌, ◌*◌, List, [], ◌∷◌, length, Option, Some, None, nat_le, ◌==◌, ◌&&◌, if◌then◌else◌}
use Rattle.std.specs.Char.{is_ascii_digit}

-- how many digits stand at the front
abbrev pub digits_len : List ℕ → ℕ
digits_len [] = 0
digits_len (b ∷ text) = if is_ascii_digit b then suc (digits_len text) else 0

-- the number that the digits go on to spell after this one, if it stays at most the greatest that is allowed
abbrev pub value_within : (most n : ℕ) → List ℕ → Option ℕ
value_within most n [] = Some n
value_within most n (d ∷ ds) = if is_ascii_digit d && nat_le (n * 10 + (d - 48)) most then value_within most (n * 10 + (d - 48)) ds else None

-- the number that the digits spell in its one form: at most the greatest that is allowed, and no 0 in front but that of 0 itself
abbrev pub number_within : (most : ℕ) → List ℕ → Option ℕ
number_within most [] = None
number_within most (d ∷ ds) = if d == 48 then (if length ds == 0 then Some 0 else None) else value_within most 0 (d ∷ ds)

-- the same of a number below 2 ^ 32
abbrev pub number_of : List ℕ → Option ℕ
number_of = number_within 4294967295
