-- Digits: the number that ASCII digits spell, one after another.
use Rattle.std.proofs.Common.{◌≡◌, ℕ, ◌+◌, ◌-◌, ◌*◌, ◌≤◌, true, List, [], ◌∷◌, arith, rules}
use Rattle.std.specs.Str.{all_ascii_digits}
use Rattle.std.proofs.lemmas.Str.Parse.{IsNumeralModel, numerals_by_fold}

-- the number that the digits go on to spell after this one
abbrev pub read_on : ℕ → List ℕ → ℕ
read_on n [] = n
read_on n (d ∷ ds) = read_on (n * 10 + (d - 48)) ds

-- it is the one that the library reads of them
pub numeral_model : IsNumeralModel (λ ds. all_ascii_digits ds ≡ true) (read_on 0)
numeral_model = numerals_by_fold _ (search rules) read_on (search rules)

-- more digits make no smaller number
pub read_on-ge : (ds : List ℕ) (n : ℕ) → n ≤ read_on n ds
read_on-ge [] n = omega arith
read_on-ge (d ∷ ds) n = omega (arith, read_on-ge ds (n * 10 + (d - 48)))
