-- Lines: which root a line says, and how the line is spelled.
use Rattle.std.proofs.Common.{◌≡◌, ℕ, ◌-◌, ◌≤◌, List, [], ◌++◌, length, take, drop, Some, None, refl, sym, ap, subst, ◌∙◌, length-append, arith}
use Rattle.std.specs.Prelude.{◌==◌, bytes_eq, codes}
use Rattle.std.specs.Cmp.Lexicographic.{same_text}
use Rattle.std.proofs.lemmas.Bool.{eq-eqb, eqb-true}
use Rattle.std.proofs.lemmas.List.{take_at, drop_at, take-append-drop}
use Rattle.std.proofs.lemmas.Slice.Eq.{bytes_eq-Decides}
use Rattle.hex.specs.Hex.{encode_lower}
use Rattle.definitions.specs.declared.openings.Nonce.{Nonce}
use Rattle.definitions.specs.declared.limits.TheConstants.{GREATEST_PLAYER}
use Rattle.byte_fields.specs.Fronts.{behind}
use Rattle.byte_fields.proofs.Reading.{bind_some}
use Rattle.plain_lemmas.proofs.Lists.{front_stands}
use Rattle.plain_lemmas.proofs.Options.{map_some, some_when, when_some}
use Rattle.text_fields.specs.Hexes.{nonce_of}
use Rattle.text_fields.specs.Numbers.{number_then}
use Rattle.text_fields.specs.Spelling.{number_text}
use Rattle.text_fields.proofs.Fields.{number_read, number_spelled}
use Rattle.text_fields.proofs.HexFields.{nonce_read, nonce_spelled}
use Rattle.roots.specs.Text.{FitsRoot, root_line}
use Rattle.roots.specs.Reading.{before, root_ended, root_of, root_said}

-- an empty line says nothing
pub root_said-empty : (q : ℕ) → root_said q [] ≡ None
unfolding root_said
root_said-empty q = refl

-- ---- what is spelled is read

before-front : (end front : List ℕ) → before end (front ++ end) ≡ Some front
before-front end front =
    let n : length (front ++ end) - length end ≡ length front = let l = length-append front end in omega arith in
    rw (n, drop_at front end (length front) refl, (bytes_eq-Decides end end).1 refl, take_at front end (length front) refl) refl

root_of-spelled : (root : List ℕ) → FitsRoot root → root_of (encode_lower root) ≡ Some root
root_of-spelled root fits = rw (nonce_read (record { bytes = root }) fits) refl

root_ended-spelled : (root : List ℕ) → FitsRoot root → root_ended (encode_lower root ++ codes "\n") ≡ Some root
root_ended-spelled root fits = rw (before-front (codes "\n") (encode_lower root)) (root_of-spelled root fits)

pub root_read : (q : ℕ) (root : List ℕ) → q ≤ GREATEST_PLAYER → FitsRoot root → root_said q (root_line q root) ≡ Some root
unfolding root_said
root_read q root small fits = rw (number_read GREATEST_PLAYER q (encode_lower root ++ codes "\n") small (omega arith), eq-eqb q q refl) (root_ended-spelled root fits)

-- ---- what is read was spelled so

before-some : (end text front : List ℕ) → before end text ≡ Some front → text ≡ front ++ end
before-some end text front e =
    let n : ℕ = length text - length end in
    let kept = some_when (bytes_eq (drop n text) end) (take n text) front e in
    let is = same_text (drop n text) end (sym kept.0) in
    sym (take-append-drop n text) ∙ ap (λ (t : List ℕ). take n text ++ t) is ∙ ap (λ (t : List ℕ). t ++ end) kept.1

root_of-some : (digits root : List ℕ) → root_of digits ≡ Some root → (digits ≡ encode_lower root) × FitsRoot root
root_of-some digits root e =
    let made = map_some (λ (n : Nonce). n.bytes) (nonce_of digits) root e in
    let is = nonce_spelled digits made.0 made.1 in
    (is.1 ∙ ap encode_lower made.2, subst FitsRoot made.2 is.0)

root_ended-some : (text root : List ℕ) → root_ended text ≡ Some root → (text ≡ encode_lower root ++ codes "\n") × FitsRoot root
root_ended-some text root e =
    let digits = bind_some (before (codes "\n") text) root_of root e in
    let is = root_of-some digits.0 root digits.2 in
    (before-some (codes "\n") text digits.0 digits.1 ∙ ap (λ (t : List ℕ). t ++ codes "\n") is.0, is.1)

pub root_taken : (q : ℕ) (line root : List ℕ) → root_said q line ≡ Some root → (line ≡ root_line q root) × FitsRoot root
unfolding root_said
root_taken q line root e =
    let front = bind_some (behind (codes "root ") line) _ root e in
    let number = bind_some (number_then GREATEST_PLAYER front.0) _ root front.2 in
    let kept = when_some (number.0.0 == q) (root_ended number.0.1) root number.2 in
    let spelled = number_spelled GREATEST_PLAYER front.0 number.0 number.1 in
    let ended = root_ended-some number.0.1 root kept.1 in
    let same = eqb-true number.0.0 q kept.0 in (
      front_stands (codes "root ") line front.0 front.1 ∙
          ap (λ (t : List ℕ). codes "root " ++ t) (spelled.0 ∙ ap (λ n. number_text n ++ number.0.1) same ∙ ap (λ (t : List ℕ). number_text q ++ t) ended.0),
      ended.1,
    )
