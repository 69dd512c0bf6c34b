-- A text is its lines, one behind the other, and lines that are spelled are the lines of their text.
use Rattle.std.proofs.Common.{◌≡◌, ℕ, suc, ◌+◌, ◌^◌, ◌≤◌, ◌<◌, Bool, true, false, eqb, List, [], ◌∷◌, ◌++◌, length, refl, sym, ap, ◌∙◌, append_assoc, arith, inl, inr}
use Rattle.std.specs.Prelude.{not, ◌&&◌}
use Rattle.std.specs.Char.{is_ascii_digit}
use Rattle.std.specs.Str.{all_ascii_digits}
use Rattle.std.specs.Fmt.{decimal}
use Rattle.std.proofs.lemmas.Bool.{cases_Bool, eqb-true, ne_eqb, and_parts, not-true, leb-true}
use Rattle.std.proofs.lemmas.List.{take_at, drop_at, length-append}
use Rattle.byte_fields.proofs.Decimals.{decimal_digits}
use Rattle.text_lines.specs.Lines.{joined, fields_of, line_of, ended_lines_of, line_len, onto_first}
use Rattle.text_lines.proofs.FirstLine.{ended_lines_of-first}

joined-onto_first : (b : ℕ) (lines : List (List ℕ)) → joined (onto_first b lines) ≡ b ∷ joined lines
joined-onto_first b [] = refl
joined-onto_first b (line ∷ lines) = refl

pub joined-ended_lines_of : (text : List ℕ) → joined (ended_lines_of text) ≡ text
unfolding ended_lines_of
joined-ended_lines_of [] = refl
joined-ended_lines_of (b ∷ text) =
    let ih = joined-ended_lines_of text in
    elim (cases_Bool (eqb b 10)) [
      | inl is ↦ rw (is, ih, eqb-true b 10 is) refl
      | inr other ↦ rw other (joined-onto_first b (ended_lines_of text) ∙ ap (λ (t : List ℕ). b ∷ t) ih)
    ]

-- no LF among these bytes
abbrev pub has_no_lf : List ℕ → Bool
has_no_lf [] = true
has_no_lf (b ∷ bs) = not (eqb b 10) && has_no_lf bs

line_len-front : (front text : List ℕ) → has_no_lf front ≡ true → line_len (front ++ text) ≡ length front + line_len text
line_len-front [] text none = omega arith
line_len-front (b ∷ front) text none =
    let both = and_parts (not (eqb b 10)) (has_no_lf front) none in
    let ih = line_len-front front text both.1 in
    let other : eqb b 10 ≡ false = not-true (eqb b 10) both.0 in
    rw other (omega (arith, ih))

digits_no_lf : (ds : List ℕ) → all_ascii_digits ds ≡ true → has_no_lf ds ≡ true
digits_no_lf [] digits = refl
digits_no_lf (d ∷ ds) digits =
    let both = and_parts (is_ascii_digit d) (all_ascii_digits ds) digits in
    let low : 48 ≤ d = leb-true 48 d (and_parts _ _ both.0).0 in
    let is_not : eqb d 10 ≡ false = ne_eqb d 10 (λ is. absurd (omega (arith, is))) in
    rw is_not (digits_no_lf ds both.1)

-- each number is below 2 ^ 32
abbrev pub AreSmall : List ℕ → Type 0
AreSmall [] = Unit {0}
AreSmall (n ∷ ns) = (n < 2 ^ 32) × AreSmall ns

line_len-fields : (ns rest : List ℕ) → AreSmall ns → line_len (fields_of ns ++ rest) ≡ length (fields_of ns)
line_len-fields [] rest small = refl
line_len-fields (n ∷ ns) rest small =
    let ih = line_len-fields ns rest small.1 in
    let digits = line_len-front (decimal n) (fields_of ns ++ rest) (digits_no_lf (decimal n) (decimal_digits n small.0)) in
    ap (λ (t : List ℕ). line_len (32 ∷ t)) (append_assoc (decimal n) (fields_of ns) rest) ∙ ap suc (digits ∙ omega (arith, ih, length-append (decimal n) (fields_of ns)))

line_len-line : (name ns rest : List ℕ) → has_no_lf name ≡ true → AreSmall ns → line_len (line_of name ns ++ rest) ≡ length (line_of name ns)
line_len-line name ns rest plain small =
    ap line_len (append_assoc name (fields_of ns) rest) ∙ line_len-front name (fields_of ns ++ rest) plain
    ∙ omega (arith, line_len-fields ns rest small, length-append name (fields_of ns))

some_fields : (ns : List ℕ) → 0 < length (fields_of ns)
some_fields [] = omega arith
some_fields (n ∷ ns) = omega arith

-- a spelled line is the first line of the text that it begins
pub ended_lines_of-line : (name ns rest : List ℕ) → has_no_lf name ≡ true → AreSmall ns → ended_lines_of (line_of name ns ++ rest) ≡ line_of name ns ∷ ended_lines_of rest
ended_lines_of-line name ns rest plain small =
    let line : List ℕ = line_of name ns in
    let len : line_len (line ++ rest) ≡ length line = line_len-line name ns rest plain small in
    let some : 0 < length (line ++ rest) = omega (arith, some_fields ns, length-append name (fields_of ns), length-append line rest) in
    ended_lines_of-first (line ++ rest) line rest some (rw len (sym (take_at line rest (length line) refl))) (rw len (sym (drop_at line rest (length line) refl)))

-- ---- lines that a text may have

-- it is the first line of each text that it begins
abbrev pub IsLine : List ℕ → Type 0
IsLine line = (rest : List ℕ) → ended_lines_of (line ++ rest) ≡ line ∷ ended_lines_of rest

-- each of these is
abbrev pub AreLines : List (List ℕ) → Type 0
AreLines [] = Unit {0}
AreLines (line ∷ lines) = IsLine line × AreLines lines

-- they are the lines of their text
pub ended_lines_of-joined : (lines : List (List ℕ)) → AreLines lines → ended_lines_of (joined lines) ≡ lines
unfolding ended_lines_of
ended_lines_of-joined [] each = refl
ended_lines_of-joined (line ∷ lines) each = each.0 (joined lines) ∙ ap (λ (ls : List (List ℕ)). line ∷ ls) (ended_lines_of-joined lines each.1)

pub are_lines-append : (xs ys : List (List ℕ)) → AreLines xs → AreLines ys → AreLines (xs ++ ys)
are_lines-append [] ys first second = second
are_lines-append (x ∷ xs) ys first second = (first.0, are_lines-append xs ys first.1 second)

pub line_of-line : (name ns : List ℕ) → has_no_lf name ≡ true → AreSmall ns → IsLine (line_of name ns)
line_of-line name ns plain small rest = ended_lines_of-line name ns rest plain small

pub bare_line : (name : List ℕ) → has_no_lf name ≡ true → IsLine (line_of name [])
bare_line name plain = line_of-line name [] plain tt

pub one_line : (name : List ℕ) (k : ℕ) → has_no_lf name ≡ true → k < 2 ^ 32 → IsLine (line_of name (k ∷ []))
one_line name k plain k_small = line_of-line name (k ∷ []) plain (k_small, tt)

pub two_line : (name : List ℕ) (k m : ℕ) → has_no_lf name ≡ true → k < 2 ^ 32 → m < 2 ^ 32 → IsLine (line_of name (k ∷ m ∷ []))
two_line name k m plain k_small m_small = line_of-line name (k ∷ m ∷ []) plain (k_small, (m_small, tt))

pub three_line : (name : List ℕ) (k m n : ℕ) → has_no_lf name ≡ true → k < 2 ^ 32 → m < 2 ^ 32 → n < 2 ^ 32 → IsLine (line_of name (k ∷ m ∷ n ∷ []))
three_line name k m n plain k_small m_small n_small = line_of-line name (k ∷ m ∷ n ∷ []) plain (k_small, (m_small, (n_small, tt)))
