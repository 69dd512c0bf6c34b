-- A number that is read stands there, and one that stands there is read.
use Rattle.std.proofs.Common.{◌≡◌, ℕ, suc, ◌+◌, ◌≤◌, true, List, [], ◌∷◌, ◌++◌, length, take, drop, Option, Some, None, refl, sym, ap, ◌∙◌, arith, subst, inl, inr}
use Rattle.std.specs.Prelude.{IfSome, IfNone, option_map}
use Rattle.std.specs.Char.{is_ascii_digit}
use Rattle.std.specs.Str.{all_ascii_digits}
use Rattle.std.specs.Fmt.{decimal}
use Rattle.std.proofs.lemmas.Bool.{and_parts, cases_Bool}
use Rattle.std.proofs.lemmas.List.{take_at, take-append-drop, drop-drop, length-take-le}
use Rattle.byte_fields.specs.declared.numbers.Number.{Number}
use Rattle.byte_fields.specs.Numbers.{digits_len, number_of}
use Rattle.byte_fields.specs.Standing.{StandsAt, number_at}
use Rattle.byte_fields.proofs.Decimals.{number_of-some, number_of-decimal, decimal_digits}
use Rattle.std.proofs.lemmas.Option.{none-some}

digits_len-within : (text : List ℕ) → digits_len text ≤ length text
digits_len-within [] = omega arith
digits_len-within (b ∷ text) =
    let ih = digits_len-within text in
    elim (cases_Bool (is_ascii_digit b)) [ inl is ↦ rw is (omega arith) | inr other ↦ rw other (omega arith) ]

-- no digit stands behind the digits at the front
digits_len-behind : (text : List ℕ) → digits_len (drop (digits_len text) text) ≡ 0
digits_len-behind [] = refl
digits_len-behind (b ∷ text) =
    let ih = digits_len-behind text in
    elim (cases_Bool (is_ascii_digit b)) [ inl is ↦ rw is ih | inr other ↦ rw (other, other) refl ]

-- digits end where other bytes begin
pub digits_len-digits : (ds rest : List ℕ) → all_ascii_digits ds ≡ true → digits_len rest ≡ 0 → digits_len (ds ++ rest) ≡ length ds
digits_len-digits [] rest digits other = other
digits_len-digits (d ∷ ds) rest digits other =
    let both = and_parts (is_ascii_digit d) (all_ascii_digits ds) digits in
    rw both.0 (ap suc (digits_len-digits ds rest both.1 other))

-- the number of the digits stands there
stands_made : (text : List ℕ) (at v : ℕ) → number_of (take (digits_len (drop at text)) (drop at text)) ≡ Some v →
    StandsAt text at (record { value = v; end = at + digits_len (drop at text) })
stands_made text at v e =
    let rest : List ℕ = drop at text in
    let k : ℕ = digits_len rest in
    let number = number_of-some (take k rest) v e in
    let behind : drop k rest ≡ drop (at + k) text = drop-drop k at text in
    let whole : rest ≡ decimal v ++ drop (at + k) text = sym (take-append-drop k rest) ∙ ap (λ (front : List ℕ). front ++ drop k rest) number.0 ∙ ap (λ (back : List ℕ). decimal v ++ back) behind in
    let long : k ≡ length (decimal v) = sym (length-take-le k rest (digits_len-within rest)) ∙ ap length number.0 in
    record { digits = whole; length_is = ap (λ (j : ℕ). at + j) long; alone = ap digits_len (sym behind) ∙ digits_len-behind rest; small = number.1 }

stands_read : (text : List ℕ) (at : ℕ) (n : Number) → number_at text at ≡ Some n → StandsAt text at n
stands_read text at n e = go (number_of (take (digits_len (drop at text)) (drop at text))) refl e
  where
    made : ℕ → Number
    made v = record { value = v; end = at + digits_len (drop at text) }

    go : (o : Option ℕ) → number_of (take (digits_len (drop at text)) (drop at text)) ≡ o → option_map made o ≡ Some n → StandsAt text at n
    go None t h = absurd cc
    go (Some v) t h =
        let is : made v ≡ n = cc in
        subst (λ (m : Number). StandsAt text at m) is (stands_made text at v t)

read_stands : (text : List ℕ) (at : ℕ) (n : Number) → StandsAt text at n → number_at text at ≡ Some n
read_stands text at n h =
    let rest : List ℕ = drop at text in
    let k : ℕ = length (decimal n.value) in
    let read : List ℕ → Option Number = λ t. option_map (λ v. record { value = v; end = at + digits_len t }) (number_of (take (digits_len t) t)) in
    let digits : digits_len (decimal n.value ++ drop n.end text) ≡ k = digits_len-digits (decimal n.value) (drop n.end text) (decimal_digits n.value h.small) h.alone in
    let front : take k (decimal n.value ++ drop n.end text) ≡ decimal n.value = take_at (decimal n.value) (drop n.end text) k refl in
    let at_end : ℕ → Number = λ e. record { value = n.value; end = e } in
    ap read h.digits ∙ rw (digits, front, number_of-decimal n.value h.small) (ap (λ (e : ℕ). Some (at_end e)) (sym h.length_is))

pub found_of : (text : List ℕ) (at : ℕ) (r : Option Number) → r ≡ number_at text at → IfSome r (λ n. StandsAt text at n)
found_of text at None e = tt
found_of text at (Some n) e = stands_read text at n (sym e)

pub none_of : (text : List ℕ) (at : ℕ) (r : Option Number) → r ≡ number_at text at → IfNone r ((n : Number) → StandsAt text at n → ⊥)
none_of text at None e = λ n stands. none-some n (e ∙ read_stands text at n stands)
none_of text at (Some n) e = tt
