-- Fields: numbers and cells in front of a text are read, and what is read in front of it stands there.
use Rattle.std.proofs.Common.{◌≡◌, ℕ, ◌+◌, ◌<◌, ◌≤◌, ◌^◌, List, [], ◌∷◌, ◌++◌, length, take, drop, refl, sym, ◌∙◌, ap, arith, subst, append_assoc, length-append}
use Rattle.std.specs.Prelude.{Option, Some, None, slice_index, nat_le, nat_lt, ◌==◌, ◌&&◌, option_map}
use Rattle.std.specs.Fmt.{decimal}
use Rattle.std.proofs.lemmas.Bool.{and_parts, eqb-true, eq-eqb, leb-true, le-leb, ltb-true, lt-ltb}
use Rattle.std.proofs.lemmas.List.{take_at, append-nil, drop_at, drop_more}
use Rattle.std.proofs.Math.Seq.{drop-length, get_or-append_seam}
use Rattle.byte_fields.specs.declared.numbers.Number.{Number}
use Rattle.byte_fields.specs.Numbers.{digits_len, number_of}
use Rattle.byte_fields.specs.Standing.{number_at}
use Rattle.byte_fields.proofs.Decimals.{number_of-decimal, decimal_digits}
use Rattle.byte_fields.proofs.Placed.{digits_len-digits, found_of}
use Rattle.definitions.specs.declared.world.Cell.{Cell}
use Rattle.definitions.specs.Openings.{FitsCell}
use Rattle.text_fields.specs.Numbers.{before_space, number_then}
use Rattle.text_fields.specs.Cells.{cell_then}
use Rattle.text_fields.specs.Spelling.{number_text, cell_text}
use Rattle.text_fields.specs.Numbers as lone
use Rattle.byte_fields.proofs.Reading.{bind_some}
use Rattle.std.proofs.lemmas.Option.{same_Some}
use Rattle.plain_lemmas.proofs.Options.{some_when, when_some}

-- ---- what is spelled is read

-- a number's digits, where no digit stands behind them
pub number_stands : (n : ℕ) (rest : List ℕ) → n < 2 ^ 32 → digits_len rest ≡ 0 →
    number_at (decimal n ++ rest) 0 ≡ Some (record { value = n; end = length (decimal n) })
number_stands n rest small none =
    let text : List ℕ = decimal n ++ rest in
    let read : ℕ → Option Number = λ k. option_map (λ v. record { value = v; end = 0 + k }) (number_of (take k text)) in
    let front = take_at (decimal n) rest (length (decimal n)) refl in
    let zero_plus : 0 + length (decimal n) ≡ length (decimal n) = omega arith in
    ap read (digits_len-digits (decimal n) rest (decimal_digits n small) none) ∙
    rw (front, number_of-decimal n small, zero_plus) refl

pub number_read : (limit n : ℕ) (rest : List ℕ) → n ≤ limit → limit < 2 ^ 32 → number_then limit (number_text n ++ rest) ≡ Some (n, rest)
unfolding number_then
number_read limit n rest fits small =
    let text : List ℕ = decimal n ++ 32 ∷ rest in
    let k : ℕ = length (decimal n) in
    let joined : number_text n ++ rest ≡ text = append_assoc (decimal n) (32 ∷ []) rest in
    let within = lt-ltb k (length text) (omega (arith, length-append (decimal n) (32 ∷ rest))) in
    let space = eq-eqb _ _ (get_or-append_seam (decimal n) 32 rest 0) in
    let is : before_space limit text (Some (record { value = n; end = k })) ≡ Some (n, drop (k + 1) text)
    = rw (le-leb n limit fits, within, space) refl in
    let behind : drop (k + 1) text ≡ rest
    = ap (drop (k + 1)) (sym joined) ∙ drop_at (number_text n) rest (k + 1) (length-append (decimal n) (32 ∷ [])) in
    ap (λ t. before_space limit t (number_at t 0)) joined ∙
    ap (before_space limit text) (number_stands n (32 ∷ rest) (omega arith) refl) ∙ is ∙ ap (λ r. Some (n, r)) behind

pub cell_read : (c : Cell) (rest : List ℕ) → FitsCell c → cell_then (cell_text c ++ rest) ≡ Some (c, rest)
unfolding cell_then
cell_read c rest fits =
    let x = number_read 65535 c.x (number_text c.y ++ rest) (omega (arith, fits.0)) (omega arith) in
    let y = number_read 65535 c.y rest (omega (arith, fits.1)) (omega arith) in
    rw (append_assoc (number_text c.x) (number_text c.y) rest, x, y) refl

pub lone_read : (limit n : ℕ) → n ≤ limit → limit < 2 ^ 32 → lone.number_of limit (decimal n) ≡ Some n
unfolding lone.number_of
lone_read limit n fits small =
    let joined : decimal n ++ [] ≡ decimal n = append-nil (decimal n) in
    ap (lone.alone_in limit (decimal n)) (ap (λ t. number_at t 0) (sym joined) ∙ number_stands n [] (omega arith) refl)
    ∙ rw (le-leb n limit fits, eq-eqb (length (decimal n)) (length (decimal n)) refl) refl

-- ---- what is read was spelled so

lone_by : (limit : ℕ) (text : List ℕ) (o : Option Number) (n : ℕ) → o ≡ number_at text 0 → lone.alone_in limit text o ≡ Some n → (text ≡ decimal n) × (n ≤ limit)
lone_by limit text None n is h = absurd cc
lone_by limit text (Some m) n is h =
    let stands = found_of text 0 (Some m) is in
    let kept = some_when (nat_le m.value limit && (m.end == length text)) m.value n h in
    let both = and_parts _ _ kept.0 in
    let none : drop m.end text ≡ [] = ap (λ k. drop k text) (eqb-true _ _ both.1) ∙ drop-length text in
    let whole : text ≡ decimal m.value = stands.digits ∙ ap (λ r. decimal m.value ++ r) none ∙ append-nil (decimal m.value) in
    (whole ∙ ap decimal kept.1, subst (λ (v : ℕ). v ≤ limit) kept.1 (leb-true _ _ both.0))

pub lone_spelled : (limit : ℕ) (text : List ℕ) (n : ℕ) → lone.number_of limit text ≡ Some n → (text ≡ decimal n) × (n ≤ limit)
unfolding lone.number_of
lone_spelled limit text n h = lone_by limit text (number_at text 0) n refl h

number_by : (limit : ℕ) (text : List ℕ) (o : Option Number) (x : ℕ × List ℕ) → o ≡ number_at text 0 → before_space limit text o ≡ Some x →
    (text ≡ number_text x.0 ++ x.1) × (x.0 ≤ limit)
number_by limit text None x is h = absurd cc
number_by limit text (Some n) x is h =
    let stands = found_of text 0 (Some n) is in
    let kept = when_some (nat_le n.value limit && nat_lt n.end (length text) && (slice_index text n.end == 32)) _ x h in
    let test = and_parts _ _ kept.0 in
    let both = and_parts _ _ test.0 in
    let space : drop n.end text ≡ 32 ∷ drop (n.end + 1) text
    = drop_more text n.end 0 (ltb-true _ _ both.1) ∙ ap (λ b. b ∷ drop (n.end + 1) text) (eqb-true _ _ test.1) in
    let pair : (n.value, drop (n.end + 1) text) ≡ x = same_Some _ _ kept.1 in
    let whole : text ≡ number_text n.value ++ drop (n.end + 1) text
    = stands.digits ∙ ap (λ r. decimal n.value ++ r) space ∙ sym (append_assoc (decimal n.value) (32 ∷ []) (drop (n.end + 1) text)) in
    (whole ∙ ap (λ (p : ℕ × List ℕ). number_text p.0 ++ p.1) pair, subst (λ (p : ℕ × List ℕ). p.0 ≤ limit) pair (leb-true _ _ both.0))

pub number_spelled : (limit : ℕ) (text : List ℕ) (x : ℕ × List ℕ) → number_then limit text ≡ Some x →
    (text ≡ number_text x.0 ++ x.1) × (x.0 ≤ limit)
unfolding number_then
number_spelled limit text x h = number_by limit text (number_at text 0) x refl h

pub cell_spelled : (text : List ℕ) (x : Cell × List ℕ) → cell_then text ≡ Some x → (text ≡ cell_text x.0 ++ x.1) × FitsCell x.0
unfolding cell_then
cell_spelled text x h =
    let a = bind_some (number_then 65535 text) _ x h in
    let b = bind_some (number_then 65535 a.0.1) _ x a.2 in
    let first = number_spelled 65535 text a.0 a.1 in
    let second = number_spelled 65535 a.0.1 b.0 b.1 in
    let c : Cell = record { x = a.0.0; y = b.0.0 } in
    let pair : (c, b.0.1) ≡ x = same_Some _ _ b.2 in
    let whole : text ≡ cell_text c ++ b.0.1
    = first.0 ∙ ap (λ r. number_text a.0.0 ++ r) second.0 ∙ sym (append_assoc (number_text a.0.0) (number_text b.0.0) b.0.1) in
    let fits : FitsCell c = (omega (arith, first.1), omega (arith, second.1)) in
    (whole ∙ ap (λ (p : Cell × List ℕ). cell_text p.0 ++ p.1) pair, subst (λ (p : Cell × List ℕ). FitsCell p.0) pair fits)
