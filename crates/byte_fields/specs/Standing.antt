-- Standing: which number stands at a place of a text.
use Rattle.std.specs.Prelude.{ℕ, ◌≡◌, ◌+◌, ◌<◌, ◌^◌, List, ◌++◌, length, take, drop, Option, option_map}
use Rattle.std.specs.Fmt.{decimal}
use Rattle.byte_fields.specs.declared.numbers.Number.{Number}
use Rattle.byte_fields.specs.Numbers.{digits_len, number_of}

-- the number's digits stand from this place up to its end, in the one form of its value, and no digit stands behind them
pub record StandsAt (text : List ℕ) (at : ℕ) (n : Number) : Type 0 where
  pub digits : drop at text ≡ decimal n.value ++ drop n.end text
  pub length_is : n.end ≡ at + length (decimal n.value)
  pub alone : digits_len (drop n.end text) ≡ 0
  pub small : n.value < 2 ^ 32

-- the number at this place, read digit by digit
abbrev pub number_at : List ℕ → ℕ → Option Number
number_at text at =
    option_map (λ v. record { value = v; end = at + digits_len (drop at text) })
    (number_of (take (digits_len (drop at text)) (drop at text)))
