-- Ends: the last line of a text, and what follows it.
use Rattle.std.proofs.Common.{◌≡◌, ℕ, ◌+◌, Bool, true, false, List, [], ◌∷◌, length, take, drop, Ok, Err, eqb, refl, sym, ap, ◌∙◌, add-one, arith}
use Rattle.std.specs.Prelude.{codes}
use Rattle.text_lines.specs.Lines.{ended_lines_of, is_bare, line_len}
use Rattle.text_lines.proofs.FirstLine.{ended_lines_of-first, none_left, some_left}
use Rattle.text_fields.specs.declared.fault.TextFault.TheVariants.{At}
use Rattle.roots.specs.Reading.{end_at}

-- a text whose first line is `end` is not empty
some_text : (text line : List ℕ) → line ≡ take (line_len text) text → is_bare (codes "end") line ≡ true → ended_lines_of text ≡ line ∷ ended_lines_of (drop (line_len text) text)
some_text [] line is end = let h : is_bare (codes "end") [] ≡ true = sym (ap (is_bare (codes "end")) is) ∙ end in absurd cc
some_text (b ∷ text) line is end = ended_lines_of-first (b ∷ text) line (drop (line_len (b ∷ text)) (b ∷ text)) (omega arith) is refl

pub end_bad : (n : ℕ) (text line : List ℕ) → line ≡ take (line_len text) text → is_bare (codes "end") line ≡ false → end_at n (ended_lines_of text) ≡ Err (At n)
unfolding end_at ended_lines_of
end_bad n [] line is other = refl
end_bad n (b ∷ text) line is other =
    let first = ended_lines_of-first (b ∷ text) line (drop (line_len (b ∷ text)) (b ∷ text)) (omega arith) is refl in
    rw (first, other) refl

pub end_past : (n : ℕ) (text line rest : List ℕ) → line ≡ take (line_len text) text → rest ≡ drop (line_len text) text → is_bare (codes "end") line ≡ true
    → (is_empty : Bool) → is_empty ≡ eqb (length rest) 0 → is_empty ≡ false → end_at n (ended_lines_of text) ≡ Err (At (n + 1))
unfolding end_at
end_past n text line rest is follows end is_empty said no_more =
    let first = some_text text line is end in
    let more = ended_lines_of-first rest (take (line_len rest) rest) (drop (line_len rest) rest) (some_left rest is_empty said no_more) refl refl in
    rw (first, end, ← follows, more) (ap (λ m. Err (At m)) (sym (add-one n)))

pub end_last : (n : ℕ) (text line rest : List ℕ) → line ≡ take (line_len text) text → rest ≡ drop (line_len text) text → is_bare (codes "end") line ≡ true
    → (is_empty : Bool) → is_empty ≡ eqb (length rest) 0 → is_empty ≡ true → end_at n (ended_lines_of text) ≡ Ok []
unfolding end_at
end_last n text line rest is follows end is_empty said none =
    let first = some_text text line is end in
    rw (first, end, ← follows, none_left rest is_empty said none) refl
