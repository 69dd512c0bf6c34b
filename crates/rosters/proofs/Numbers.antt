-- Numbers: a number before a mark is read, and what is read stands there.
use Rattle.std.proofs.Common.{◌≡◌, ℕ, ◌+◌, ◌<◌, ◌≤◌, ◌^◌, true, false, List, [], ◌∷◌, ◌++◌, length, drop, Option, Some, None, refl, sym, ap, subst, ◌∙◌, append_assoc, arith, length-append}
use Rattle.std.specs.Prelude.{◌&&◌, ◌==◌, nat_le, nat_lt, slice_index}
use Rattle.std.specs.Char.{is_ascii_digit}
use Rattle.std.specs.Fmt.{decimal}
use Rattle.std.proofs.lemmas.Bool.{and_parts, eqb-true, eq-eqb, leb-true, le-leb, ltb-true, lt-ltb}
use Rattle.std.proofs.lemmas.List.{drop_at, drop_more}
use Rattle.std.proofs.lemmas.Option.{same_Some}
use Rattle.std.proofs.Math.Seq.{get_or-append_seam}
use Rattle.byte_fields.specs.declared.numbers.Number.{Number}
use Rattle.byte_fields.specs.Numbers.{digits_len}
use Rattle.byte_fields.specs.Standing.{number_at}
use Rattle.byte_fields.proofs.Placed.{found_of}
use Rattle.plain_lemmas.proofs.Options.{when_some}
use Rattle.text_fields.proofs.Fields.{number_stands}
use Rattle.rosters.specs.Fields.{before_mark, is_marked, number_then}

pub number_read : (mark limit n : ℕ) (rest : List ℕ) → is_ascii_digit mark ≡ false → n ≤ limit → limit < 2 ^ 32 → number_then mark limit (decimal n ++ mark ∷ rest) ≡ Some (n, rest)
unfolding number_then
number_read mark limit n rest other fits small =
    let text : List ℕ = decimal n ++ mark ∷ rest in
    let k : ℕ = length (decimal n) in
    let none : digits_len (mark ∷ rest) ≡ 0 = rw other refl in
    let within : nat_lt k (length text) ≡ true = lt-ltb k (length text) (omega (arith, length-append (decimal n) (mark ∷ rest))) in
    let marked = eq-eqb (slice_index text k) mark (get_or-append_seam (decimal n) mark rest 0) in
    let joined : (decimal n ++ (mark ∷ [])) ++ rest ≡ text = append_assoc (decimal n) (mark ∷ []) rest in
    let behind : drop (k + 1) text ≡ rest = ap (drop (k + 1)) (sym joined) ∙ drop_at (decimal n ++ (mark ∷ [])) rest (k + 1) (length-append (decimal n) (mark ∷ [])) in
    let is : before_mark mark limit text (Some (record { value = n; end = k })) ≡ Some (n, drop (k + 1) text) = rw (le-leb n limit fits, within, marked) refl in
    ap (before_mark mark limit text) (number_stands n (mark ∷ rest) (omega arith) none) ∙ is ∙ ap (λ (r : List ℕ). Some (n, r)) behind

number_by : (mark limit : ℕ) (text : List ℕ) (o : Option Number) (x : ℕ × List ℕ) → o ≡ number_at text 0 → before_mark mark limit text o ≡ Some x → (text ≡ decimal x.0 ++ mark ∷ x.1) × (x.0 ≤ limit)
number_by mark limit text None x is h = absurd cc
number_by mark limit text (Some n) x is h =
    let stands = found_of text 0 (Some n) is in
    let kept = when_some (nat_le n.value limit && is_marked mark n.end text) _ x h in
    let test = and_parts (nat_le n.value limit) (is_marked mark n.end text) kept.0 in
    let both = and_parts (nat_lt n.end (length text)) (slice_index text n.end == mark) test.1 in
    let split : drop n.end text ≡ mark ∷ drop (n.end + 1) text = drop_more text n.end 0 (ltb-true _ _ both.0) ∙ ap (λ b. b ∷ drop (n.end + 1) text) (eqb-true _ _ both.1) in
    let pair : (n.value, drop (n.end + 1) text) ≡ x = same_Some _ _ kept.1 in
    let whole : text ≡ decimal n.value ++ mark ∷ drop (n.end + 1) text = stands.digits ∙ ap (λ r. decimal n.value ++ r) split in
    (whole ∙ ap (λ (p : ℕ × List ℕ). decimal p.0 ++ mark ∷ p.1) pair, subst (λ (p : ℕ × List ℕ). p.0 ≤ limit) pair (leb-true _ _ test.0))

pub number_spelled : (mark limit : ℕ) (text : List ℕ) (x : ℕ × List ℕ) → number_then mark limit text ≡ Some x → (text ≡ decimal x.0 ++ mark ∷ x.1) × (x.0 ≤ limit)
unfolding number_then
number_spelled mark limit text x h = number_by mark limit text (number_at text 0) x refl h
