-- Decided: a front of a text says what the text says, where it has room for the lines that are read and a byte more.
use Rattle.std.proofs.Common.{◌≡◌, ◌⊎◌, inl, inr, ℕ, zero, suc, ◌-◌, ◌*◌, ◌^◌, ◌<◌, ◌≤◌, List, [], ◌∷◌, length, length-append, take, drop, Option, Some, None, Err, refl, sym, ap, ◌∙◌, arith}
use Rattle.std.specs.Prelude.{◌==◌, min}
use Rattle.std.specs.Fmt.{decimal}
use Rattle.std.proofs.lemmas.Bool.{cases_order, cases_Bool}
use Rattle.std.proofs.lemmas.Fmt.{length-decimal-le}
use Rattle.std.proofs.lemmas.List.{length-take-le}
use Rattle.definitions.specs.declared.limits.TheConstants.{MOST_TURNS}
use Rattle.definitions.specs.declared.world.Cell.{Cell}
use Rattle.definitions.specs.declared.world.Move.{Move}
use Rattle.definitions.specs.Openings.{FitsStrike}
use Rattle.text_lines.specs.Lines.{ended_lines_of, fields_of, line_len, line_of}
use Rattle.text_lines.proofs.FirstLine.{ended_lines_of-cons}
use Rattle.text_fields.specs.declared.fault.TextFault.TheVariants.{At}
use Rattle.pilots.specs.declared.limits.TheConstants.{MOVES_FRONT}
use Rattle.pilots.specs.Scripts.{FitsMove, move_line, move_said, moves_at, script_at, strike_numbers}
use Rattle.pilots.proofs.MoveLines.{move_taken}

-- ---- the first line of a front

line_len-within : (text : List ℕ) → line_len text ≤ length text
line_len-within [] = omega arith
line_len-within (b ∷ text) = let ih = line_len-within text in elim (cases_Bool (b == 10)) [ inl is ↦ rw is (omega arith) | inr other ↦ rw other (omega arith) ]

-- it is the text's, where the front has room for it, and otherwise the whole front
line_len-take : (n : ℕ) (text : List ℕ) → line_len (take n text) ≡ min n (line_len text)
line_len-take zero text = omega arith
line_len-take (suc n) [] = omega arith
line_len-take (suc n) (b ∷ text) = let ih = line_len-take n text in elim (cases_Bool (b == 10)) [ inl is ↦ rw is (omega arith) | inr other ↦ rw other (omega arith) ]

take-less : (k n : ℕ) (text : List ℕ) → k ≤ n → take k (take n text) ≡ take k text
take-less zero n text le = refl
take-less (suc k) zero text le = absurd (omega arith)
take-less (suc k) (suc n) [] le = refl
take-less (suc k) (suc n) (b ∷ text) le = ap (λ (t : List ℕ). b ∷ t) (take-less k n text (omega arith))

take_nil : (n : ℕ) → take {A = ℕ} n [] ≡ []
take_nil zero = refl
take_nil (suc n) = refl

drop-take : (k n : ℕ) (text : List ℕ) → k ≤ n → drop k (take n text) ≡ take (n - k) (drop k text)
drop-take zero n text le = let e : n ≡ n - 0 = omega arith in ap (λ m. take m text) e
drop-take (suc k) zero text le = absurd (omega arith)
drop-take (suc k) (suc n) [] le = sym (take_nil (suc n - suc k))
drop-take (suc k) (suc n) (b ∷ text) le = let e : n - k ≡ suc n - suc k = omega arith in drop-take k n text (omega arith) ∙ ap (λ m. take m (drop k text)) e

-- ---- the lines of moves are short

digits_short : (n : ℕ) → n < 2 ^ 16 → length (decimal n) ≤ 5
digits_short n small = length-decimal-le 5 n (omega arith) (omega arith) (omega arith)

move_short : (mv : Move) → FitsMove mv → length (move_line mv) ≤ 24
move_short mv fits = go mv.strike fits.1
  where
    go : (s : Option Cell) → FitsStrike s → length (line_of (decimal mv.to.x) (mv.to.y ∷ strike_numbers s)) ≤ 24
    go None f =
        let x = digits_short mv.to.x fits.0.0 in
        let y = digits_short mv.to.y fits.0.1 in
        let a = length-append (decimal mv.to.y) (fields_of []) in
        let b = length-append (decimal mv.to.x) (fields_of (mv.to.y ∷ [])) in
        omega arith
    go (Some at) f =
        let x = digits_short mv.to.x fits.0.0 in
        let y = digits_short mv.to.y fits.0.1 in
        let u = digits_short at.x f.0 in
        let v = digits_short at.y f.1 in
        let a = length-append (decimal at.y) (fields_of []) in
        let b = length-append (decimal at.x) (fields_of (at.y ∷ [])) in
        let c = length-append (decimal mv.to.y) (fields_of (at.x ∷ at.y ∷ [])) in
        let d = length-append (decimal mv.to.x) (fields_of (mv.to.y ∷ at.x ∷ at.y ∷ [])) in
        omega arith

-- a long line says no move
long_says_none : (line : List ℕ) → 24 < length line → move_said line ≡ None
long_says_none line long = go (move_said line) refl
  where
    go : (o : Option Move) → move_said line ≡ o → o ≡ None
    go None e = refl
    go (Some mv) e = let taken = move_taken line mv e in let short = move_short mv taken.1 in let same = ap (λ (l : List ℕ). length l) taken.0 in absurd (omega arith)

said_short : (line : List ℕ) (mv : Move) → move_said line ≡ Some mv → length line ≤ 24
said_short line mv e = let taken = move_taken line mv e in let short = move_short mv taken.1 in let same = ap (λ (l : List ℕ). length l) taken.0 in omega arith

-- ---- line by line

-- a first line that says no move is at fault
none_first : (k n : ℕ) (line : List ℕ) (lines : List (List ℕ)) → move_said line ≡ None → moves_at (suc k) n (line ∷ lines) ≡ Err (At n)
unfolding moves_at
none_first k n line lines none = rw none refl

-- a first line that says a move leaves the others
some_first : (k n : ℕ) (line : List ℕ) (lines others : List (List ℕ)) (mv : Move) → move_said line ≡ Some mv → moves_at k (suc n) lines ≡ moves_at k (suc n) others
    → moves_at (suc k) n (line ∷ lines) ≡ moves_at (suc k) n (line ∷ others)
unfolding moves_at
some_first k n line lines others mv some same = rw (some, same) refl

any_past : (n : ℕ) (line : List ℕ) (lines : List (List ℕ)) → moves_at 0 n (line ∷ lines) ≡ Err (At n)
unfolding moves_at
any_past n line lines = refl

-- the first line stands in the front
with_room : (k n room b : ℕ) (text : List ℕ) → line_len (b ∷ text) ≤ suc room → 24 * suc k < suc room
    → ((left : ℕ) → 24 * k < left → moves_at k (suc n) (ended_lines_of (take left (drop (line_len (b ∷ text)) (b ∷ text)))) ≡ moves_at k (suc n) (ended_lines_of (drop (line_len (b ∷ text)) (b ∷ text))))
    → moves_at (suc k) n (ended_lines_of (b ∷ take room text)) ≡ moves_at (suc k) n (ended_lines_of (b ∷ text))
with_room k n room b text fits lt ih =
    ap (moves_at (suc k) n) split ∙ by_line (move_said line) refl ∙ sym (ap (moves_at (suc k) n) (ended_lines_of-cons b text))
  where
    whole : List ℕ
    whole = b ∷ text

    len : ℕ
    len = line_len whole

    line : List ℕ
    line = take len whole

    left : ℕ
    left = suc room - len

    front_len : line_len (b ∷ take room text) ≡ len
    front_len = let e = line_len-take (suc room) whole in omega arith

    split : ended_lines_of (b ∷ take room text) ≡ line ∷ ended_lines_of (take left (drop len whole))
    split =
        ended_lines_of-cons b (take room text) ∙ ap (λ m. take m (b ∷ take room text) ∷ ended_lines_of (drop m (b ∷ take room text))) front_len
        ∙ ap (λ (l : List ℕ). l ∷ ended_lines_of (drop len (b ∷ take room text))) (take-less len (suc room) whole fits)
        ∙ ap (λ (r : List ℕ). line ∷ ended_lines_of r) (drop-take len (suc room) whole fits)

    by_line : (o : Option Move) → move_said line ≡ o → moves_at (suc k) n (line ∷ ended_lines_of (take left (drop len whole))) ≡ moves_at (suc k) n (line ∷ ended_lines_of (drop len whole))
    by_line None none = none_first k n line (ended_lines_of (take left (drop len whole))) none ∙ sym (none_first k n line (ended_lines_of (drop len whole)) none)
    by_line (Some mv) some =
        let short = said_short line mv some in
        let count = length-take-le len whole (line_len-within whole) in
        some_first k n line (ended_lines_of (take left (drop len whole))) (ended_lines_of (drop len whole)) mv some (ih left (omega arith))

-- the front is one line, which is too long, as the text's is
without_room : (k n room b : ℕ) (text : List ℕ) → suc room < line_len (b ∷ text) → 24 * suc k < suc room
    → moves_at (suc k) n (ended_lines_of (b ∷ take room text)) ≡ moves_at (suc k) n (ended_lines_of (b ∷ text))
without_room k n room b text long lt =
    let whole : List ℕ = b ∷ text in
    let front : List ℕ = b ∷ take room text in
    let len = line_len whole in
    let within = line_len-within whole in
    let count = length-take-le len whole within in
    let min_len = line_len-take (suc room) whole in
    let front_len : line_len front ≡ suc room = omega arith in
    let front_count : length (take (line_len front) front) ≡ suc room =
    ap (λ m. length (take m front)) front_len ∙ ap (λ (t : List ℕ). length t) (take-less (suc room) (suc room) whole (omega arith)) ∙ length-take-le (suc room) whole (omega arith) in
    ap (moves_at (suc k) n) (ended_lines_of-cons b (take room text)) ∙ none_first k n _ _ (long_says_none (take (line_len front) front) (omega arith))
    ∙ sym (ap (moves_at (suc k) n) (ended_lines_of-cons b text) ∙ none_first k n _ _ (long_says_none (take len whole) (omega arith)))

decides : (k n room : ℕ) (text : List ℕ) → 24 * k < room → moves_at k n (ended_lines_of (take room text)) ≡ moves_at k n (ended_lines_of text)
decides k n zero text lt = absurd (omega arith)
decides k n (suc room) [] lt = refl
decides zero n (suc room) (b ∷ text) lt =
    ap (moves_at 0 n) (ended_lines_of-cons b (take room text)) ∙ any_past n _ _ ∙ sym (ap (moves_at 0 n) (ended_lines_of-cons b text) ∙ any_past n _ _)
decides (suc k) n (suc room) (b ∷ text) lt =
    let rest : List ℕ = drop (line_len (b ∷ text)) (b ∷ text) in
    elim (cases_less (line_len (b ∷ text)) (suc room)) [
      | inl fits ↦ with_room k n room b text fits lt (λ left more. decides k (suc n) left rest more)
      | inr long ↦ without_room k n room b text long lt
    ]
  where
    cases_less : (a c : ℕ) → (a ≤ c) ⊎ (c < a)
    cases_less a c = elim (cases_order a c) [
      | inl same ↦ inl (omega arith)
      | inr rest ↦ elim rest [ inl less ↦ inl (omega arith) | inr more ↦ inr more ]
    ]

pub front_decides : (turns : ℕ) (text : List ℕ) → turns ≤ MOST_TURNS → script_at turns (take MOVES_FRONT text) ≡ script_at turns text
front_decides turns text few = decides turns 1 MOVES_FRONT text (omega arith)
