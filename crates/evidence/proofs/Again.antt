-- What is spelled is read: the text of an exhibit is read as that exhibit.
use Rattle.std.proofs.Common.{◌≡◌, ℕ, suc, ◌+◌, ◌^◌, ◌≤◌, ◌<◌, false, List, [], ◌∷◌, ◌++◌, length, Ok, refl, arith}
use Rattle.std.specs.Prelude.{codes, ◌==◌}
use Rattle.std.proofs.lemmas.Bool.{ne_eqb, lt-ltb}
use Rattle.hex.specs.Hex.{encode_lower}
use Rattle.definitions.specs.declared.frames.TurnFrame.{TurnFrame}
use Rattle.definitions.specs.declared.findings.Kind.{Kind}
use Rattle.definitions.specs.declared.findings.Kind.TheVariants.{TwoCommits, BadOpening, Collision, Illegal}
use Rattle.definitions.specs.declared.limits.TheConstants.{GREATEST_PLAYER, MOST_EVIDENCE_FRAMES}
use Rattle.definitions.specs.Lists.{EachIs}
use Rattle.commitment.specs.Spelling.{frame_bytes}
use Rattle.text_lines.specs.Lines.{ended_lines_of}
use Rattle.text_lines.proofs.Forms.{one_within-spelled}
use Rattle.text_lines.proofs.Joined.{AreLines, IsLine, bare_line, ended_lines_of-joined, one_line}
use Rattle.text_fields.proofs.Digits.{digits_lower}
use Rattle.text_fields.proofs.Plain.{digits_plain}
use Rattle.evidence.specs.declared.exhibit.Exhibit.{Exhibit}
use Rattle.evidence.specs.Text.{IsExhibit, FitsText, kind_line, frame_line, head_lines, frame_lines, exhibit_lines, exhibit_text}
use Rattle.evidence.specs.Reading.{head_at, frame_at, frames_at, said_by}
use Rattle.evidence.proofs.Steps.{kind_said-spelled, frame_said-spelled}

pub head_again : (version q t : ℕ) (kind : Kind) (rest : List (List ℕ)) → version < 2 ^ 32 → q ≤ GREATEST_PLAYER → t < 2 ^ 32 →
    head_at version (head_lines version q t kind ++ rest) ≡ Ok (record { player = q; turn = t; kind = kind }, rest)
unfolding head_at
head_again version q t kind rest small player turn =
    rw (
      one_within-spelled (codes "evidence") version version version (omega arith) (omega arith) (omega (arith, small)),
      one_within-spelled (codes "player") 0 GREATEST_PLAYER q (omega arith) player (omega (arith, player)),
      one_within-spelled (codes "turn") 0 4294967295 t (omega arith) (omega (arith, turn)) turn,
      kind_said-spelled kind,
    ) refl

frame_again : (count : ℕ) (f : TurnFrame) → count < MOST_EVIDENCE_FRAMES → FitsText f → frame_at count (frame_line f) ≡ Ok f
unfolding frame_at
frame_again count f few fits = rw (lt-ltb count MOST_EVIDENCE_FRAMES few, frame_said-spelled f fits) refl

pub frames_again : (count : ℕ) (fs : List TurnFrame) → 0 < count + length fs → count + length fs ≤ MOST_EVIDENCE_FRAMES → EachIs FitsText fs → frames_at count (frame_lines fs) ≡ Ok fs
unfolding frames_at
frames_again count [] some few fits =
    let other : (count == 0) ≡ false = ne_eqb count 0 (λ e. absurd (omega arith)) in
    rw other refl
frames_again count (f ∷ fs) some few fits =
    rw (frame_again count f (omega arith) fits.0, frames_again (suc count) fs (omega arith) (omega arith) fits.1) refl

pub said_again : (x : Exhibit) → IsExhibit x → said_by (exhibit_lines x) ≡ Ok x
unfolding said_by
said_again x is =
    let some = is.some in
    let few = is.few in
    rw (head_again 1 x.player x.turn x.kind (frame_lines x.frames) (omega arith) is.player is.turn, frames_again 0 x.frames (omega arith) (omega arith) is.frames) refl

-- ---- the lines of the text

pub kind_is_line : (kind : Kind) → IsLine (kind_line kind)
kind_is_line TwoCommits = bare_line (codes "kind two-commits") refl
kind_is_line BadOpening = bare_line (codes "kind bad-opening") refl
kind_is_line Collision = bare_line (codes "kind collision") refl
kind_is_line Illegal = bare_line (codes "kind illegal") refl

pub frame_is_line : (f : TurnFrame) → FitsText f → IsLine (frame_line f)
frame_is_line f fits = bare_line (codes "frame " ++ encode_lower (frame_bytes f)) (digits_plain (encode_lower (frame_bytes f)) (digits_lower (frame_bytes f) fits.1))

frames_are_lines : (fs : List TurnFrame) → EachIs FitsText fs → AreLines (frame_lines fs)
frames_are_lines [] fits = (bare_line (codes "end") refl, tt)
frames_are_lines (f ∷ fs) fits = (frame_is_line f fits.0, frames_are_lines fs fits.1)

pub ended_lines_of-exhibit_text : (x : Exhibit) → IsExhibit x → ended_lines_of (exhibit_text x) ≡ exhibit_lines x
unfolding exhibit_text
ended_lines_of-exhibit_text x is =
    let player = is.player in
    ended_lines_of-joined (exhibit_lines x) (
      one_line (codes "evidence") 1 refl (omega arith),
      (
        one_line (codes "player") x.player refl (omega arith),
        (one_line (codes "turn") x.turn refl is.turn, (kind_is_line x.kind, frames_are_lines x.frames is.frames)),
      ),
    )
