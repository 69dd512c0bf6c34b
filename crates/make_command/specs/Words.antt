-- Words: what the words of the command say.
use Rattle.std.specs.Prelude.{ℕ, ◌^◌, ◌<◌, ◌≡◌, ◌↔◌, decimal, List, [], ◌∷◌, Option, None, Some}
use Rattle.byte_fields.specs.Numbers.{number_within}

-- the number of the match, by the words behind the command's name, which are `N`: a number in its one form, below 2 ^ 64
abbrev pub making_in : List (List ℕ) → Option ℕ
making_in (number ∷ []) = number_within 18446744073709551615 number
making_in words = None

-- The words say a number exactly where they are its decimal digits, and it is below 2 ^ 64.
abbrev pub NumbersAreTold : Type 0
NumbersAreTold = (words : List (List ℕ)) (n : ℕ) → (making_in words ≡ Some n) ↔ ((words ≡ decimal n ∷ []) × (n < 2 ^ 64))
