-- Putting: bytes written one behind the other.
use Rattle.std.proofs.Common.{◌≡◌, ◌≤◌, ℕ, ◌+◌, ◌-◌, List, [], ◌∷◌, ◌++◌, length, take, drop, sym, ◌∙◌, ap, arith, append_assoc}
use Rattle.std.specs.Prelude.{slice_set}
use Rattle.std.proofs.lemmas.List.{take_at, drop_at, drop-take, length-take-le}
use Rattle.byte_fields.specs.Fields.{overwritten}

-- the front of what is written without its first four bytes
pub put_rest : (old new frame : List ℕ) (count a b c d : ℕ) (rest : List ℕ) → take count frame ≡ a ∷ b ∷ c ∷ d ∷ rest → count ≡ length (a ∷ b ∷ c ∷ d ∷ rest) →
    new ≡ overwritten old 0 (take (count - 4) (drop 4 frame)) → take (count - 4) new ≡ rest
put_rest old new frame count a b c d rest front long e =
    let n : ℕ = count - 4 in
    let all : 4 + n ≡ count = omega arith in
    let few : length rest ≡ n = omega arith in
    let is : take n (drop 4 frame) ≡ rest = sym (drop-take 4 n frame) ∙ ap (λ k. drop 4 (take k frame)) all ∙ ap (drop 4) front in
    ap (take n) (e ∙ ap (λ xs. overwritten old 0 xs) is) ∙ take_at rest (drop (0 + length rest) old) n few

-- what was written last
pub put_last : (old new text : List ℕ) (at end : ℕ) → at ≤ length old → take end new ≡ take at old ++ text → end ≡ at + length text → take (end - at) (drop at new) ≡ text
put_last old new text at end within e long =
    let all : at + (end - at) ≡ end = omega arith in
    sym (drop-take at (end - at) new) ∙ ap (λ k. drop at (take k new)) all ∙ ap (drop at) e ∙ drop_at (take at old) text at (length-take-le at old within)

-- a text and its digest behind other bytes
pub put_chained : (front text digest other all : List ℕ) → all ≡ (front ++ text) ++ digest → digest ≡ other → all ≡ front ++ (text ++ other)
put_chained front text digest other all e d = e ∙ append_assoc front text digest ∙ ap (λ xs. front ++ (text ++ xs)) d

-- a first byte, and what is written behind it
pub put_marked : (old : List ℕ) (mark : ℕ) (rest other all : List ℕ) → length old ≡ 96 → all ≡ take 1 (slice_set old 0 mark) ++ rest → rest ≡ other → all ≡ mark ∷ other
put_marked [] mark rest other all long e d = absurd (omega arith)
put_marked (x ∷ xs) mark rest other all long e d = e ∙ ap (λ ys. mark ∷ ys) d
