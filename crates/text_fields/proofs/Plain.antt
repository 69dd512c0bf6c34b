-- Plain: no digit is an LF, so digits end no line.
use Rattle.std.proofs.Common.{◌≡◌, ℕ, ◌^◌, ◌<◌, ◌≤◌, true, false, List, [], ◌∷◌, refl, arith, inl, inr}
use Rattle.std.specs.Prelude.{◌&&◌, ◌==◌, nat_le}
use Rattle.std.specs.List.{list_all}
use Rattle.std.specs.Char.{is_ascii_digit}
use Rattle.std.specs.Str.{all_ascii_digits}
use Rattle.std.specs.Fmt.{decimal}
use Rattle.std.proofs.lemmas.Bool.{and_from, and_parts, leb-true, ne_eqb, or_cases, or_left}
use Rattle.byte_fields.proofs.Decimals.{decimal_digits}
use Rattle.text_lines.proofs.Joined.{has_no_lf}
use Rattle.text_fields.specs.Hexes.{is_lower_digit}

-- no digit is an LF
digit_plain : (b : ℕ) → is_lower_digit b ≡ true → (b == 10) ≡ false
digit_plain b h =
    elim (or_cases (is_ascii_digit b) (nat_le 97 b && nat_le b 102) h) [
      | inl low ↦ let least : 48 ≤ b = leb-true 48 b (and_parts _ _ low).0 in ne_eqb b 10 (λ e. absurd (omega arith))
      | inr high ↦ let least : 97 ≤ b = leb-true 97 b (and_parts (nat_le 97 b) (nat_le b 102) high).0 in ne_eqb b 10 (λ e. absurd (omega arith))
    ]

pub digits_plain : (ds : List ℕ) → list_all is_lower_digit ds ≡ true → has_no_lf ds ≡ true
digits_plain [] all = refl
digits_plain (d ∷ ds) all =
    let both = and_parts (is_lower_digit d) (list_all is_lower_digit ds) all in
    rw (digit_plain d both.0) (digits_plain ds both.1)

-- the digits of a decimal number are among those of hexadecimal ones
decimals_lower : (ds : List ℕ) → all_ascii_digits ds ≡ true → list_all is_lower_digit ds ≡ true
decimals_lower [] digits = refl
decimals_lower (d ∷ ds) digits =
    let both = and_parts (is_ascii_digit d) (all_ascii_digits ds) digits in
    and_from _ _ (or_left (is_ascii_digit d) (nat_le 97 d && nat_le d 102) both.0) (decimals_lower ds both.1)

pub number_plain : (n : ℕ) → n < 2 ^ 32 → has_no_lf (decimal n) ≡ true
number_plain n small = digits_plain (decimal n) (decimals_lower (decimal n) (decimal_digits n small))
