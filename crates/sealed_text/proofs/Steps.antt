-- Steps: what the line of a seal says, and how it is spelled.
use Rattle.std.proofs.Common.{◌≡◌, ℕ, ◌-◌, ◌*◌, true, List, [], ◌++◌, length, take, drop, Some, None, refl, sym, ap, ◌∙◌, length-append, arith}
use Rattle.std.specs.Prelude.{◌==◌, ◌&&◌, bytes_eq, codes}
use Rattle.std.specs.List.{list_all}
use Rattle.std.specs.Cmp.Lexicographic.{same_text}
use Rattle.std.proofs.lemmas.Bool.{and_parts, eq-eqb, eqb-true}
use Rattle.std.proofs.lemmas.List.{take_at, drop_at, take-append-drop}
use Rattle.std.proofs.lemmas.Slice.Eq.{bytes_eq-Decides}
use Rattle.hex.specs.Hex.{decode_of, encode_lower, lower_digits}
use Rattle.hex.proofs.HexLemmas.{decode_of-encode_lower, length-encode_with}
use Rattle.byte_fields.specs.Fronts.{behind}
use Rattle.byte_fields.proofs.Reading.{bind_some}
use Rattle.plain_lemmas.proofs.Lists.{front_stands}
use Rattle.plain_lemmas.proofs.Options.{some_when, when_some}
use Rattle.text_lines.proofs.Joined.{IsLine, bare_line}
use Rattle.text_fields.specs.Hexes.{is_lower_digit}
use Rattle.text_fields.proofs.Digits.{digits_lower, digits_spelled, ok_some}
use Rattle.text_fields.proofs.Plain.{digits_plain}
use Rattle.evidence.specs.Reading.{before}
use Rattle.sealed_text.specs.Text.{FitsSeal, seal_line}
use Rattle.sealed_text.specs.Reading.{digits_said, seal_of, seal_said}

-- an empty line says no seal
pub seal_said-empty : (n : ℕ) → seal_said n [] ≡ None
unfolding seal_said
seal_said-empty n = refl

-- ---- what is spelled is read

before-front : (end front : List ℕ) → before end (front ++ end) ≡ Some front
before-front end front =
    let n : length (front ++ end) - length end ≡ length front = let l = length-append front end in omega arith in
    rw (n, drop_at front end (length front) refl, (bytes_eq-Decides end end).1 refl, take_at front end (length front) refl) refl

seal_of-spelled : (n : ℕ) (seal : List ℕ) → FitsSeal n seal → seal_of n (encode_lower seal) ≡ Some seal
seal_of-spelled n seal fits =
    let long = length-encode_with lower_digits seal in
    let count : (length (encode_lower seal) == 2 * n) ≡ true = eq-eqb (length (encode_lower seal)) (2 * n) (omega (arith, long, fits.0)) in
    rw (count, digits_lower seal fits.1, decode_of-encode_lower seal fits.1) refl

pub seal_said-spelled : (n : ℕ) (seal : List ℕ) → FitsSeal n seal → seal_said n (seal_line seal) ≡ Some seal
unfolding seal_said
seal_said-spelled n seal fits = rw (before-front (codes "\n") (encode_lower seal)) (seal_of-spelled n seal fits)

-- ---- what is read was spelled so

before-some : (end text front : List ℕ) → before end text ≡ Some front → text ≡ front ++ end
before-some end text front e =
    let n : ℕ = length text - length end in
    let kept = some_when (bytes_eq (drop n text) end) (take n text) front e in
    let is = same_text (drop n text) end (sym kept.0) in
    sym (take-append-drop n text) ∙ ap (λ (t : List ℕ). take n text ++ t) is ∙ ap (λ (t : List ℕ). t ++ end) kept.1

seal_of-some : (n : ℕ) (digits seal : List ℕ) → seal_of n digits ≡ Some seal → (digits ≡ encode_lower seal) × FitsSeal n seal
seal_of-some n digits seal e =
    let kept = when_some ((length digits == 2 * n) && list_all is_lower_digit digits) _ seal e in
    let both = and_parts (length digits == 2 * n) (list_all is_lower_digit digits) kept.0 in
    let is = digits_spelled digits seal both.1 (ok_some (decode_of digits) seal kept.1) in
    let count = eqb-true (length digits) (2 * n) both.0 in
    (is.0, (omega (arith, is.2, count), is.1))

pub seal_said-some : (n : ℕ) (line seal : List ℕ) → seal_said n line ≡ Some seal → (line ≡ seal_line seal) × FitsSeal n seal
unfolding seal_said
seal_said-some n line seal e =
    let digits = bind_some (digits_said line) (seal_of n) seal e in
    let rest = bind_some (behind (codes "seal ") line) (before (codes "\n")) digits.0 digits.1 in
    let front = front_stands (codes "seal ") line rest.0 rest.1 in
    let spelled = seal_of-some n digits.0 seal digits.2 in
    let end = before-some (codes "\n") rest.0 digits.0 rest.2 in
    (front ∙ ap (λ (t : List ℕ). codes "seal " ++ t) (end ∙ ap (λ (t : List ℕ). t ++ codes "\n") spelled.0), spelled.1)

-- ---- the line of a seal

pub seal_is_line : (n : ℕ) (seal : List ℕ) → FitsSeal n seal → IsLine (seal_line seal)
seal_is_line n seal fits = bare_line (codes "seal " ++ encode_lower seal) (digits_plain (encode_lower seal) (digits_lower seal fits.1))
