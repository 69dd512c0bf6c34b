-- MoveLines: what the line of a move says, and how it is spelled.
use Rattle.std.proofs.Common.{◌≡◌, ℕ, ◌^◌, ◌<◌, true, List, [], ◌∷◌, length, take, drop, Option, Some, None, refl, sym, ap, subst, ◌∙◌, arith}
use Rattle.std.specs.Prelude.{◌&&◌, nat_le}
use Rattle.std.specs.Fmt.{decimal}
use Rattle.std.proofs.lemmas.Bool.{and_parts, le-leb, leb-true}
use Rattle.std.proofs.lemmas.List.{drop_at, take_at}
use Rattle.std.proofs.lemmas.Slice.Eq.{bytes_eq-Decides}
use Rattle.byte_fields.specs.declared.numbers.Number.{Number}
use Rattle.byte_fields.specs.Numbers.{digits_len}
use Rattle.byte_fields.specs.Standing.{StandsAt, number_at}
use Rattle.byte_fields.proofs.Decimals.{number_of-decimal, decimal_digits}
use Rattle.byte_fields.proofs.Placed.{digits_len-digits, found_of}
use Rattle.byte_fields.proofs.Reading.{bind_some}
use Rattle.plain_lemmas.proofs.Options.{some_when}
use Rattle.definitions.specs.declared.world.Cell.{Cell}
use Rattle.definitions.specs.declared.world.Move.{Move}
use Rattle.definitions.specs.Openings.{FitsCell, FitsStrike}
use Rattle.text_lines.specs.Lines.{field_at, fields_of, line_of, one_of, three_of}
use Rattle.text_lines.proofs.Forms.{one_of-some, one_of-spelled, three_of-some, three_of-spelled}
use Rattle.text_lines.proofs.Joined.{IsLine, has_no_lf, line_of-line}
use Rattle.text_fields.proofs.Fields.{number_stands}
use Rattle.text_fields.proofs.Plain.{number_plain}
use Rattle.pilots.specs.Scripts.{FitsMove, cell_of, move_behind, move_line, move_of, move_said, step_to, strike_at, strike_numbers}

-- ---- what is spelled is read

cell_fits : (c : Cell) → FitsCell c → cell_of c.x c.y ≡ Some c
cell_fits c fits = let x : nat_le c.x 65535 ≡ true = le-leb _ _ (omega (arith, fits.0)) in let y : nat_le c.y 65535 ≡ true = le-leb _ _ (omega (arith, fits.1)) in rw (x, y) refl

-- a line that three numbers stand in behind the first says no one number there
one_of-three : (name : List ℕ) (a b c : ℕ) → a < 2 ^ 32 → one_of name (line_of name (a ∷ b ∷ c ∷ [])) ≡ None
unfolding one_of field_at
one_of-three name a b c small =
    let rest : List ℕ = fields_of (b ∷ c ∷ []) in
    let text : List ℕ = fields_of (a ∷ b ∷ c ∷ []) in
    let digits = digits_len-digits (decimal a) rest (decimal_digits a small) refl in
    rw (
      take_at name text (length name) refl,
      (bytes_eq-Decides name name).1 refl,
      drop_at name text (length name) refl,
      digits,
      take_at (decimal a) rest (length (decimal a)) refl,
      number_of-decimal a small,
      drop_at (decimal a) rest (length (decimal a)) refl,
    ) refl

pub move_spelled : (mv : Move) → FitsMove mv → move_said (move_line mv) ≡ Some mv
unfolding move_said
move_spelled mv fits = go mv.strike fits.1
  where
    digits : List ℕ
    digits = decimal mv.to.x

    first : (numbers : List ℕ) → digits_len (fields_of numbers) ≡ 0 → number_at (line_of digits numbers) 0 ≡ Some (record { value = mv.to.x; end = length digits })
    first numbers none = number_stands mv.to.x (fields_of numbers) (omega (arith, fits.0.0)) none

    go : (s : Option Cell) → FitsStrike s → move_said (move_line (record { to = mv.to; strike = s })) ≡ Some (record { to = mv.to; strike = s })
    go None f =
        let line : List ℕ = line_of digits (mv.to.y ∷ []) in
        let front : take (length digits) line ≡ digits = take_at digits (fields_of (mv.to.y ∷ [])) (length digits) refl in
        rw (first (mv.to.y ∷ []) refl, front, one_of-spelled digits mv.to.y (omega (arith, fits.0.1)), cell_fits mv.to fits.0) refl
    go (Some at) f =
        let numbers : List ℕ = mv.to.y ∷ at.x ∷ at.y ∷ [] in
        let line : List ℕ = line_of digits numbers in
        let front : take (length digits) line ≡ digits = take_at digits (fields_of numbers) (length digits) refl in
        rw (
          first numbers refl,
          front,
          one_of-three digits mv.to.y at.x at.y (omega (arith, fits.0.1)),
          three_of-spelled digits mv.to.y at.x at.y (omega (arith, fits.0.1)) (omega (arith, f.0)) (omega (arith, f.1)),
          cell_fits mv.to fits.0,
          cell_fits at f,
        ) refl

-- ---- what is read was spelled so

fits_cell : (x y : ℕ) (c : Cell) → cell_of x y ≡ Some c → (x ≡ c.x) × (y ≡ c.y) × FitsCell c
fits_cell x y c e =
    let kept = some_when (nat_le x 65535 && nat_le y 65535) _ c e in
    let both = and_parts (nat_le x 65535) (nat_le y 65535) kept.0 in
    let a : x ≡ c.x = ap (λ (d : Cell). d.x) kept.1 in
    let b : y ≡ c.y = ap (λ (d : Cell). d.y) kept.1 in
    (a, b, (omega (arith, leb-true x 65535 both.0), omega (arith, leb-true y 65535 both.1)))

-- the numbers of a move that fit
abbrev IsSpelledBy : Move → ℕ → List ℕ → Type 0
IsSpelledBy mv x numbers = (x ≡ mv.to.x) × (numbers ≡ mv.to.y ∷ strike_numbers mv.strike) × FitsMove mv

step_takes : (x y : ℕ) (o : Option Cell) (mv : Move) → cell_of x y ≡ o → step_to o ≡ Some mv → IsSpelledBy mv x (y ∷ [])
step_takes x y None mv is e = absurd cc
step_takes x y (Some to) mv is e =
    let cell = fits_cell x y to is in
    let made : Move = record { to = to; strike = None } in
    let same : made ≡ mv = cc in
    subst (λ (m : Move). IsSpelledBy m x (y ∷ [])) same (cell.0, ap (λ n. n ∷ []) cell.1, (cell.2, tt))

strike_takes : (x y a b : ℕ) (o p : Option Cell) (mv : Move) → cell_of x y ≡ o → cell_of a b ≡ p → strike_at o p ≡ Some mv → IsSpelledBy mv x (y ∷ a ∷ b ∷ [])
strike_takes x y a b None p mv is at e = absurd cc
strike_takes x y a b (Some to) None mv is at e = absurd cc
strike_takes x y a b (Some to) (Some c) mv is at e =
    let cell = fits_cell x y to is in
    let struck = fits_cell a b c at in
    let made : Move = record { to = to; strike = Some c } in
    let same : made ≡ mv = cc in
    let numbers : (y ∷ a ∷ b ∷ []) ≡ (to.y ∷ c.x ∷ c.y ∷ []) = ap (λ n. n ∷ a ∷ b ∷ []) cell.1 ∙ ap (λ n. to.y ∷ n ∷ b ∷ []) struck.0 ∙ ap (λ n. to.y ∷ c.x ∷ n ∷ []) struck.1 in
    subst (λ (m : Move). IsSpelledBy m x (y ∷ a ∷ b ∷ [])) same (cell.0, numbers, (cell.2, struck.2))

pub move_taken : (line : List ℕ) (mv : Move) → move_said line ≡ Some mv → (line ≡ move_line mv) × FitsMove mv
unfolding move_said
move_taken line mv e =
    let n = bind_some (number_at line 0) (move_behind line) mv e in
    let stands = found_of line 0 (Some n.0) (sym n.1) in
    by_one n.0 stands (one_of (take n.0.end line) line) refl n.2
  where
    made : (n : Number) → take n.end line ≡ decimal n.value → (numbers : List ℕ) → line ≡ line_of (take n.end line) numbers → IsSpelledBy mv n.value numbers → (line ≡ move_line mv) × FitsMove mv
    made n front numbers is by =
        (is ∙ ap (λ name. line_of name numbers) (front ∙ ap decimal by.0) ∙ ap (line_of (decimal mv.to.x)) by.1, by.2)

    front_of : (n : Number) → StandsAt line 0 n → take n.end line ≡ decimal n.value
    front_of n stands = ap (take n.end) stands.digits ∙ take_at (decimal n.value) (drop n.end line) n.end (omega (arith, stands.length_is))

    by_three : (n : Number) → StandsAt line 0 n → (o : Option (ℕ × ℕ × ℕ)) → three_of (take n.end line) line ≡ o → move_of n.value None o ≡ Some mv → (line ≡ move_line mv) × FitsMove mv
    by_three n stands None e h = absurd cc
    by_three n stands (Some x) e h =
        made n (front_of n stands) (x.0 ∷ x.1 ∷ x.2 ∷ []) (three_of-some (take n.end line) line x e) (strike_takes n.value x.0 x.1 x.2 (cell_of n.value x.0) (cell_of x.1 x.2) mv refl refl h)

    by_one : (n : Number) → StandsAt line 0 n → (o : Option ℕ) → one_of (take n.end line) line ≡ o → move_of n.value o (three_of (take n.end line) line) ≡ Some mv → (line ≡ move_line mv) × FitsMove mv
    by_one n stands None e h = by_three n stands (three_of (take n.end line) line) refl h
    by_one n stands (Some y) e h = made n (front_of n stands) (y ∷ []) (one_of-some (take n.end line) line y e) (step_takes n.value y (cell_of n.value y) mv refl h)

-- an empty line says no move
pub move_said-empty : move_said [] ≡ None
unfolding move_said
move_said-empty = refl

-- ---- lines of a text

pub move_is_line : (mv : Move) → FitsMove mv → IsLine (move_line mv)
move_is_line mv fits = go mv.strike fits.1
  where
    plain : has_no_lf (decimal mv.to.x) ≡ true
    plain = number_plain mv.to.x (omega (arith, fits.0.0))

    go : (s : Option Cell) → FitsStrike s → IsLine (move_line (record { to = mv.to; strike = s }))
    go None f = line_of-line (decimal mv.to.x) (mv.to.y ∷ []) plain (omega (arith, fits.0.1), tt)
    go (Some at) f = line_of-line (decimal mv.to.x) (mv.to.y ∷ at.x ∷ at.y ∷ []) plain (omega (arith, fits.0.1), (omega (arith, f.0), (omega (arith, f.1), tt)))
