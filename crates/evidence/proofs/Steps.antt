-- What the line of a kind or of a frame says, and how it is spelled.
use Rattle.std.proofs.Common.{◌≡◌, ℕ, ◌-◌, true, List, [], ◌++◌, length, take, drop, Some, None, refl, sym, ap, ◌∙◌, length-append, arith, inl, inr}
use Rattle.std.specs.Prelude.{bytes_eq, codes}
use Rattle.std.specs.Cmp.Lexicographic.{same_text}
use Rattle.std.proofs.lemmas.List.{take_at, drop_at, take-append-drop}
use Rattle.std.proofs.lemmas.Slice.Eq.{bytes_eq-Decides}
use Rattle.hex.specs.Hex.{encode_lower}
use Rattle.definitions.specs.declared.frames.TurnFrame.{TurnFrame}
use Rattle.definitions.specs.declared.findings.Kind.{Kind}
use Rattle.definitions.specs.declared.findings.Kind.TheVariants.{TwoCommits, BadOpening, Collision, Illegal}
use Rattle.commitment.specs.Spelling.{frame_bytes}
use Rattle.byte_fields.specs.Fronts.{behind}
use Rattle.byte_fields.proofs.Reading.{bind_some}
use Rattle.text_fields.specs.Hexes.{frame_of}
use Rattle.text_fields.proofs.HexFields.{frame_read, frame_spelled}
use Rattle.plain_lemmas.proofs.Lists.{front_stands}
use Rattle.plain_lemmas.proofs.Options.{some_when}
use Rattle.plain_lemmas.proofs.Tests.{chosen}
use Rattle.evidence.specs.Text.{FitsText, kind_line, frame_line}
use Rattle.evidence.specs.Reading.{kind_said, before, digits_said, frame_said}

-- ---- kinds

pub kind_said-some : (line : List ℕ) (kind : Kind) → kind_said line ≡ Some kind → line ≡ kind_line kind
kind_said-some line kind e =
    elim (chosen (bytes_eq line (kind_line TwoCommits)) _ _ _ e) [
      | inl a ↦ is TwoCommits a.0 a.1
      | inr a ↦
          elim (chosen (bytes_eq line (kind_line BadOpening)) _ _ _ a.1) [
            | inl b ↦ is BadOpening b.0 b.1
            | inr b ↦
                elim (chosen (bytes_eq line (kind_line Collision)) _ _ _ b.1) [
                  | inl d ↦ is Collision d.0 d.1
                  | inr d ↦
                      elim (chosen (bytes_eq line (kind_line Illegal)) _ _ _ d.1) [ inl f ↦ is Illegal f.0 f.1 | inr f ↦ absurd (none f.1) ]
                ]
          ]
    ]
  where
    is : (k : Kind) → bytes_eq line (kind_line k) ≡ true → Some k ≡ Some kind → line ≡ kind_line kind
    is k same e = let kinds : k ≡ kind = cc in same_text line (kind_line k) (sym same) ∙ ap kind_line kinds

    none : None ≡ Some kind → ⊥
    none e = absurd cc

pub kind_said-spelled : (kind : Kind) → kind_said (kind_line kind) ≡ Some kind
kind_said-spelled TwoCommits = refl
kind_said-spelled BadOpening = refl
kind_said-spelled Collision = refl
kind_said-spelled Illegal = refl

-- ---- frames

before-some : (end text front : List ℕ) → before end text ≡ Some front → text ≡ front ++ end
before-some end text front e =
    let n : ℕ = length text - length end in
    let kept = some_when (bytes_eq (drop n text) end) (take n text) front e in
    let is = same_text (drop n text) end (sym kept.0) in
    sym (take-append-drop n text) ∙ ap (λ (t : List ℕ). take n text ++ t) is ∙ ap (λ (t : List ℕ). t ++ end) kept.1

before-front : (end front : List ℕ) → before end (front ++ end) ≡ Some front
before-front end front =
    let n : length (front ++ end) - length end ≡ length front = let l = length-append front end in omega arith in
    rw (n, drop_at front end (length front) refl, (bytes_eq-Decides end end).1 refl, take_at front end (length front) refl) refl

pub frame_said-some : (line : List ℕ) (f : TurnFrame) → frame_said line ≡ Some f → (line ≡ frame_line f) × FitsText f
unfolding frame_said
frame_said-some line f e =
    let digits = bind_some (digits_said line) frame_of f e in
    let rest = bind_some (behind (codes "frame ") line) (before (codes "\n")) digits.0 digits.1 in
    let front = front_stands (codes "frame ") line rest.0 rest.1 in
    let spelled = frame_spelled digits.0 f digits.2 in
    let end = before-some (codes "\n") rest.0 digits.0 rest.2 in
    (front ∙ ap (λ (t : List ℕ). codes "frame " ++ t) (end ∙ ap (λ (t : List ℕ). t ++ codes "\n") spelled.2), (spelled.0, spelled.1))

pub frame_said-spelled : (f : TurnFrame) → FitsText f → frame_said (frame_line f) ≡ Some f
unfolding frame_said
frame_said-spelled f fits = rw (before-front (codes "\n") (encode_lower (frame_bytes f))) (frame_read f fits.0 fits.1)

-- an empty line says no kind
pub kind_said-empty : kind_said [] ≡ None
kind_said-empty = refl
