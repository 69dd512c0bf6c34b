-- The first line of a text.
use Rattle.std.proofs.Common.{◌≡◌, ℕ, ◌<◌, Bool, true, false, eqb, List, [], ◌∷◌, length, take, drop, Option, Some, None, Ok, Err, refl, sym, ap, ◌∙◌, arith, inl, inr}
use Rattle.std.proofs.lemmas.Bool.{cases_Bool, eqb-true}
use Rattle.text_lines.specs.Lines.{ended_lines_of, kept_within, line_len, one_of, one_within, two_of, three_of, three_or_five_of}
use Rattle.text_lines.specs.Reading.{formed, line_at}

pub ended_lines_of-cons : (b : ℕ) (text : List ℕ) → ended_lines_of (b ∷ text) ≡ take (line_len (b ∷ text)) (b ∷ text) ∷ ended_lines_of (drop (line_len (b ∷ text)) (b ∷ text))
unfolding ended_lines_of
ended_lines_of-cons b [] =
    elim (cases_Bool (eqb b 10)) [ inl is ↦ rw (is, eqb-true b 10 is) refl | inr other ↦ rw other refl ]
ended_lines_of-cons b (c ∷ text) =
    let ih = ended_lines_of-cons c text in
    elim (cases_Bool (eqb b 10)) [ inl is ↦ rw (is, eqb-true b 10 is) refl | inr other ↦ rw (other, ih) refl ]

-- an empty line has no form
pub one_of-empty : (name : List ℕ) → 0 < length name → one_of name [] ≡ None
unfolding one_of
one_of-empty [] some = absurd (omega arith)
one_of-empty (c ∷ name) some = refl

pub two_of-empty : (name : List ℕ) → 0 < length name → two_of name [] ≡ None
unfolding two_of
two_of-empty [] some = absurd (omega arith)
two_of-empty (c ∷ name) some = refl

pub three_of-empty : (name : List ℕ) → 0 < length name → three_of name [] ≡ None
unfolding three_of
three_of-empty [] some = absurd (omega arith)
three_of-empty (c ∷ name) some = refl

pub three_or_five_of-empty : (name : List ℕ) → 0 < length name → three_or_five_of name [] ≡ None
unfolding three_or_five_of
three_or_five_of-empty [] some = absurd (omega arith)
three_or_five_of-empty (c ∷ name) some = refl

-- the lines of a text that is not empty
pub ended_lines_of-first : (text line rest : List ℕ) → 0 < length text → line ≡ take (line_len text) text → rest ≡ drop (line_len text) text → ended_lines_of text ≡ line ∷ ended_lines_of rest
ended_lines_of-first [] line rest some e d = absurd (omega arith)
ended_lines_of-first (b ∷ text) line rest some e d = rw (e, d) (ended_lines_of-cons b text)

pub some_left : (text : List ℕ) (is_empty : Bool) → is_empty ≡ eqb (length text) 0 → is_empty ≡ false → 0 < length text
some_left [] is_empty e h = absurd cc
some_left (b ∷ text) is_empty e h = omega arith

pub none_left : (text : List ℕ) (is_empty : Bool) → is_empty ≡ eqb (length text) 0 → is_empty ≡ true → ended_lines_of text ≡ []
unfolding ended_lines_of
none_left [] is_empty e h = refl
none_left (b ∷ text) is_empty e h = absurd (omega (arith, eqb-true (length (b ∷ text)) 0 (sym e ∙ h)))

pub one_within-empty : (name : List ℕ) (low high : ℕ) → 0 < length name → one_within name low high [] ≡ None
one_within-empty name low high some = ap (kept_within low high) (one_of-empty name some)

-- ---- a line of a text that is read by its form

line_at-first : {E A : Type 0} (e : E) (read : List ℕ → Option A) (text : List ℕ) → read [] ≡ None
    → line_at e read (ended_lines_of text) ≡ formed e (read (take (line_len text) text)) (ended_lines_of (drop (line_len text) text))
unfolding ended_lines_of
line_at-first e read [] none = rw none refl
line_at-first e read (b ∷ text) none = rw (ended_lines_of-cons b text) refl

-- a line that does not have its form, or is missing
pub line_at-none : {E A : Type 0} (e : E) (read : List ℕ → Option A) (text line : List ℕ) → read [] ≡ None → line ≡ take (line_len text) text
    → read line ≡ None → line_at e read (ended_lines_of text) ≡ Err e
line_at-none e read text line none is h = line_at-first e read text none ∙ rw (← is, h) refl

-- a line that has its form
pub line_at-some : {E A : Type 0} (e : E) (read : List ℕ → Option A) (text line rest : List ℕ) (x : A) → read [] ≡ None → line ≡ take (line_len text) text
    → rest ≡ drop (line_len text) text → read line ≡ Some x → line_at e read (ended_lines_of text) ≡ Ok (x, ended_lines_of rest)
line_at-some e read text line rest x none is d h = line_at-first e read text none ∙ rw (← is, ← d, h) refl
