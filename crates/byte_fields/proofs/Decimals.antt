-- A number that is read is spelled so, and what is spelled so is read.
use Rattle.std.proofs.Common.{◌≡◌, ℕ, ◌+◌, ◌-◌, ◌*◌, ◌^◌, ◌<◌, ◌≤◌, ◌&&◌, Bool, true, false, cond, eqb, leb, List, [], ◌∷◌, length, get_or, Some, None, refl, sym, ap, ◌∙◌, arith, inl, inr}
use Rattle.std.specs.Char.{is_ascii_digit}
use Rattle.std.specs.Str.{all_ascii_digits}
use Rattle.std.specs.Fmt.{decimal}
use Rattle.std.proofs.lemmas.Bool.{cases_eq, eqb-true, eqb-false, ne_eqb, leb-true, le-leb, and_parts, and_from}
use Rattle.std.proofs.lemmas.List.{nil_from_length}
use Rattle.std.proofs.lemmas.Fmt.{decimal_digit, first_decimal, digits_decimal, digits_value-decimal, decimal-digits_value}
use Rattle.byte_fields.proofs.Digits.{read_on, numeral_model, read_on-ge}
use Rattle.byte_fields.specs.Numbers.{value_within, number_within, number_of}
use Rattle.std.proofs.lemmas.Option.{cond_some}

-- what the digits spell, and that it is at most the greatest that is allowed
record Spells (most n : ℕ) (ds : List ℕ) (v : ℕ) : Type 0 where
  digits : all_ascii_digits ds ≡ true
  value : read_on n ds ≡ v
  within : v ≤ most

value_within-some : (most : ℕ) (ds : List ℕ) (n v : ℕ) → n ≤ most → value_within most n ds ≡ Some v → Spells most n ds v
value_within-some most [] n v small e = let is : n ≡ v = cc in record { digits = refl; value = is; within = omega (arith, small, is) }
value_within-some most (d ∷ ds) n v small e =
    let next : ℕ = n * 10 + (d - 48) in
    go (λ small kept. value_within-some most ds next v small kept) (is_ascii_digit d && leb next most) refl e
  where
    go : (n * 10 + (d - 48) ≤ most → value_within most (n * 10 + (d - 48)) ds ≡ Some v → Spells most (n * 10 + (d - 48)) ds v) →
        (b : Bool) → (is_ascii_digit d && leb (n * 10 + (d - 48)) most) ≡ b → cond b (value_within most (n * 10 + (d - 48)) ds) None ≡ Some v → Spells most n (d ∷ ds) v
    go further true t h =
        let next : ℕ = n * 10 + (d - 48) in
        let both = and_parts (is_ascii_digit d) (leb next most) t in
        let rest = further (leb-true next most both.1) h in
        record { digits = and_from (is_ascii_digit d) (all_ascii_digits ds) both.0 rest.digits; value = rest.value; within = rest.within }
    go further false t h = absurd cc

value_within-all : (most : ℕ) (ds : List ℕ) (n : ℕ) → all_ascii_digits ds ≡ true → read_on n ds ≤ most → value_within most n ds ≡ Some (read_on n ds)
value_within-all most [] n digits small = refl
value_within-all most (d ∷ ds) n digits small =
    let next : ℕ = n * 10 + (d - 48) in
    let both = and_parts (is_ascii_digit d) (all_ascii_digits ds) digits in
    let le : leb next most ≡ true = le-leb next most (omega (arith, small, read_on-ge ds next)) in
    rw (both.0, le) (value_within-all most ds next both.1 small)

pub number_within-some : (most : ℕ) (ds : List ℕ) (n : ℕ) → most < 2 ^ 64 → number_within most ds ≡ Some n → (ds ≡ decimal n) × (n ≤ most)
number_within-some most [] n fits e = absurd cc
number_within-some most (d ∷ ds) n fits e = go (eqb d 48) refl e
  where
    go : (b : Bool) → eqb d 48 ≡ b → cond b (cond (eqb (length ds) 0) (Some 0) None) (value_within most 0 (d ∷ ds)) ≡ Some n → (d ∷ ds ≡ decimal n) × (n ≤ most)
    go true t h =
        let kept = cond_some (eqb (length ds) 0) 0 n h in
        let digit : d ≡ 48 = eqb-true d 48 t in
        let alone : ds ≡ [] = nil_from_length ds (eqb-true (length ds) 0 kept.0) in
        (ap (λ (ds : List ℕ). d ∷ ds) alone ∙ ap (λ (d : ℕ). d ∷ []) digit ∙ sym (decimal_digit 0 (omega arith)) ∙ ap decimal kept.1, omega (arith, kept.1))
    go false t h =
        let spelled = value_within-some most (d ∷ ds) 0 n (omega arith) h in
        let first : get_or (d ∷ ds) 0 0 ≡ 48 → length (d ∷ ds) ≡ 1 = λ is. absurd (eqb-false d 48 t is) in
        (sym (decimal-digits_value numeral_model (d ∷ ds) spelled.digits (omega arith) first (omega (arith, fits, spelled.value, spelled.within))) ∙ ap decimal spelled.value, spelled.within)

number_within-digits : (most : ℕ) (ds : List ℕ) (n : ℕ) → all_ascii_digits ds ≡ true → read_on 0 ds ≡ n → n ≤ most → 48 < get_or ds 0 0 → number_within most ds ≡ Some n
number_within-digits most [] n digits value within first = absurd (omega arith)
number_within-digits most (d ∷ ds) n digits value within first =
    let other : eqb d 48 ≡ false = ne_eqb d 48 (λ is. absurd (omega (arith, is))) in
    rw other (value_within-all most (d ∷ ds) 0 digits (omega (arith, value, within)) ∙ ap (λ (v : ℕ). Some v) value)

pub number_within-decimal : (most n : ℕ) → most < 2 ^ 64 → n ≤ most → number_within most (decimal n) ≡ Some n
number_within-decimal most n fits within =
    elim (cases_eq n 0) [
      | inl none ↦ rw none (ap (number_within most) (decimal_digit 0 (omega arith)))
      | inr some ↦ number_within-digits most (decimal n) n (digits_decimal numeral_model n (omega arith)) (digits_value-decimal numeral_model n (omega arith)) within (first_decimal n (omega arith) (omega arith))
    ]

-- the same of numbers below 2 ^ 32
pub number_of-some : (ds : List ℕ) (n : ℕ) → number_of ds ≡ Some n → (ds ≡ decimal n) × (n < 2 ^ 32)
number_of-some ds n e = let some = number_within-some 4294967295 ds n (omega arith) e in (some.0, omega (arith, some.1))

pub number_of-decimal : (n : ℕ) → n < 2 ^ 32 → number_of (decimal n) ≡ Some n
number_of-decimal n small = number_within-decimal 4294967295 n (omega arith) (omega (arith, small))

pub decimal_digits : (n : ℕ) → n < 2 ^ 32 → all_ascii_digits (decimal n) ≡ true
decimal_digits n small = digits_decimal numeral_model n (omega arith)
