-- Digits: bytes are read from their lower-case digits, and digits that are read are those of the bytes.
use Rattle.std.proofs.Common.{◌≡◌, ℕ, suc, ◌+◌, ◌*◌, ◌/◌, ◌%◌, ◌<◌, Bool, true, false, ◌&&◌, List, [], ◌∷◌, length, refl, sym, ap, ◌∙◌, arith}
use Rattle.std.specs.Prelude.{Option, Some, None, Result, Ok, Err, unwrap_or, option_map, slice_index, nat_lt, ◌==◌}
use Rattle.std.specs.Result.{result_ok}
use Rattle.std.specs.List.{list_all}
use Rattle.std.proofs.lemmas.Bool.{agree_below_at, and_parts, and_from, eqb-true, ltb-true}
use Rattle.text_lines.proofs.Steps.{bind_ok}
use Rattle.hex.specs.Hex.{IsBytes, lower_digits, hex_digit_value, digit_or_error, value_at, pair_value, decode_pairs, decode_of, decode_sized, encode_with, encode_lower}
use Rattle.hex.specs.declared.error.FromHexError.{FromHexError}
use Rattle.hex.proofs.HexLemmas.{decode_of-even, decode_of-ok, decode_sized-ok, decode_sized-twice}
use Rattle.text_fields.specs.Hexes.{is_lower_digit}

-- ---- bytes have lower-case digits

digit_lower : (v : ℕ) → v < 16 → is_lower_digit (slice_index lower_digits v) ≡ true
digit_lower v small = agree_below_at (λ d. is_lower_digit (slice_index lower_digits d)) (λ d. true) 16 v refl small

pub digits_lower : (bytes : List ℕ) → IsBytes bytes → list_all is_lower_digit (encode_lower bytes) ≡ true
unfolding encode_with
digits_lower [] b = refl
digits_lower (x ∷ bytes) b =
    let byte : x < 256 = b 0 in
    let high = digit_lower (x / 16) (omega arith) in
    let low = digit_lower (x % 16) (omega arith) in
    and_from _ _ high (and_from _ _ low (digits_lower bytes (λ i. b (suc i))))

-- ---- lower-case digits are those of what they read as

-- the digit is that of its value
abbrev is_own : ℕ → Bool
is_own c = unwrap_or (option_map (λ v. (slice_index lower_digits v == c) && nat_lt v 16) (hex_digit_value c)) false

lower_small : (c : ℕ) → is_lower_digit c ≡ true → c < 103
lower_small c lower = grind arith

digit_spelled : (c v : ℕ) → is_lower_digit c ≡ true → hex_digit_value c ≡ Some v → (slice_index lower_digits v ≡ c) × (v < 16)
digit_spelled c v lower value =
    let test : is_lower_digit c ≡ (is_lower_digit c && is_own c)
    = agree_below_at is_lower_digit (λ c. is_lower_digit c && is_own c) 103 c refl (lower_small c lower) in
    let own : is_own c ≡ true = (and_parts (is_lower_digit c) (is_own c) (sym test ∙ lower)).1 in
    let both = and_parts (slice_index lower_digits v == c) (nat_lt v 16) (rw value at own) in
    (eqb-true (slice_index lower_digits v) c both.0, ltb-true v 16 both.1)

value_read : (c i : ℕ) (o : Option ℕ) (v : ℕ) → digit_or_error c i o ≡ Ok v → o ≡ Some v
value_read c i (Some w) v h = cc
value_read c i None v h = absurd cc

ok_same : {A : Type 0} (x y : A) → (let r : Result A FromHexError = Ok x in r) ≡ Ok y → x ≡ y
ok_same x y h = cc

pairs_spelled : (i : ℕ) (text bytes : List ℕ) → list_all is_lower_digit text ≡ true → decode_pairs i text ≡ Ok bytes →
    encode_lower bytes ≡ text
unfolding decode_pairs encode_with
pairs_spelled i [] bytes lower h = ap encode_lower (sym (ok_same [] bytes h))
pairs_spelled i (a ∷ []) bytes lower h = absurd cc
pairs_spelled i (a ∷ b ∷ text) bytes lower h =
    let first = and_parts (is_lower_digit a) (list_all is_lower_digit (b ∷ text)) lower in
    let second = and_parts (is_lower_digit b) (list_all is_lower_digit text) first.1 in
    let pair = bind_ok (pair_value a b i) _ bytes h in
    let high = bind_ok (value_at a i) _ pair.0 pair.1 in
    let low = bind_ok (value_at b (i + 1)) _ pair.0 high.2 in
    let behind = bind_ok (decode_pairs (i + 2) text) _ bytes pair.2 in
    let x = digit_spelled a high.0 first.0 (value_read a i (hex_digit_value a) high.0 high.1) in
    let y = digit_spelled b low.0 second.0 (value_read b (i + 1) (hex_digit_value b) low.0 low.1) in
    let byte : high.0 * 16 + low.0 ≡ pair.0 = ok_same _ _ low.2 in
    let all : pair.0 ∷ behind.0 ≡ bytes = ok_same _ _ behind.2 in
    let above : pair.0 / 16 ≡ high.0 = omega arith in
    let below : pair.0 % 16 ≡ low.0 = omega arith in
    ap encode_lower (sym all) ∙
    ap (λ d. slice_index lower_digits d ∷ slice_index lower_digits (pair.0 % 16) ∷ encode_lower behind.0) above ∙
    ap (λ d. slice_index lower_digits high.0 ∷ slice_index lower_digits d ∷ encode_lower behind.0) below ∙
    ap (λ c. c ∷ slice_index lower_digits low.0 ∷ encode_lower behind.0) x.0 ∙ ap (λ c. a ∷ c ∷ encode_lower behind.0) y.0 ∙
    ap (λ rest. a ∷ b ∷ rest) (pairs_spelled (i + 2) text behind.0 second.1 behind.1)

pub digits_spelled : (text bytes : List ℕ) → list_all is_lower_digit text ≡ true → decode_of text ≡ Ok bytes →
    (text ≡ encode_lower bytes) × IsBytes bytes × (length text ≡ 2 * length bytes)
digits_spelled text bytes lower h =
    let ok = decode_of-ok text bytes h in
    (sym (pairs_spelled 0 text bytes lower (sym (decode_of-even text ok.0) ∙ h)), ok.3, ok.2)

pub sized_read : (text : List ℕ) (n : ℕ) (bytes : List ℕ) → decode_sized text n ≡ Ok bytes → decode_of text ≡ Ok bytes
sized_read text n bytes h = sym (decode_sized-twice text n (decode_sized-ok text n bytes h)) ∙ h

pub ok_some : (r : Result (List ℕ) FromHexError) (bytes : List ℕ) → result_ok r ≡ Some bytes → r ≡ Ok bytes
ok_some (Ok x) bytes h = cc
ok_some (Err e) bytes h = absurd cc
