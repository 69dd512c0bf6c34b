-- Short: the text of an exhibit has fewer bytes than decide what a file says.
use Rattle.std.proofs.Common.{ℕ, ◌+◌, ◌*◌, ◌^◌, ◌≤◌, ◌<◌, List, [], ◌∷◌, ◌++◌, length, length-append, arith}
use Rattle.std.specs.Prelude.{codes}
use Rattle.std.specs.Fmt.{decimal}
use Rattle.std.proofs.lemmas.Fmt.{length-decimal-le}
use Rattle.hex.specs.Hex.{encode_lower, lower_digits}
use Rattle.hex.proofs.HexLemmas.{length-encode_with}
use Rattle.definitions.specs.declared.frames.TurnFrame.{TurnFrame}
use Rattle.definitions.specs.declared.findings.Kind.{Kind}
use Rattle.definitions.specs.declared.findings.Kind.TheVariants.{TwoCommits, BadOpening, Collision, Illegal}
use Rattle.definitions.specs.declared.limits.TheConstants.{EVIDENCE_FRONT}
use Rattle.definitions.specs.Lists.{EachIs}
use Rattle.commitment.specs.Spelling.{frame_bytes}
use Rattle.commitment.proofs.Reading.{frame_short}
use Rattle.text_lines.specs.Lines.{fields_of, joined, line_of}
use Rattle.evidence.specs.declared.exhibit.Exhibit.{Exhibit}
use Rattle.evidence.specs.Text.{FitsText, IsExhibit, exhibit_text, frame_line, frame_lines, kind_line}

number_short : (name : List ℕ) (n : ℕ) → n < 2 ^ 32 → length (line_of name (n ∷ [])) ≤ length name + 12
number_short name n small =
    let digits = length-decimal-le 10 n (omega arith) (omega arith) (omega arith) in
    let fields = length-append (decimal n) (codes "\n") in
    let line = length-append name (fields_of (n ∷ [])) in
    omega arith

kind_short : (kind : Kind) → length (kind_line kind) ≤ 17
kind_short TwoCommits = omega arith
kind_short BadOpening = omega arith
kind_short Collision = omega arith
kind_short Illegal = omega arith

frame_line_short : (f : TurnFrame) → FitsText f → length (frame_line f) ≤ 105
frame_line_short f fits =
    let few = frame_short f fits.0 in
    let digits = length-encode_with lower_digits (frame_bytes f) in
    let line = length-append (encode_lower (frame_bytes f)) (codes "\n") in
    omega arith

frames_short : (fs : List TurnFrame) → EachIs FitsText fs → length (joined (frame_lines fs)) ≤ 105 * length fs + 4
frames_short [] fits = omega arith
frames_short (f ∷ fs) fits =
    let one = frame_line_short f fits.0 in
    let ih = frames_short fs fits.1 in
    let both = length-append (frame_line f) (joined (frame_lines fs)) in
    omega arith

pub text_short : (x : Exhibit) → IsExhibit x → length (exhibit_text x) < EVIDENCE_FRONT
unfolding exhibit_text
text_short x is =
    let version = number_short (codes "evidence") 1 (omega arith) in
    let player_small = is.player in
    let player = number_short (codes "player") x.player (omega arith) in
    let turn = number_short (codes "turn") x.turn is.turn in
    let kind = kind_short x.kind in
    let frames = frames_short x.frames is.frames in
    let few = is.few in
    let d = length-append (kind_line x.kind) (joined (frame_lines x.frames)) in
    let c = length-append (line_of (codes "turn") (x.turn ∷ [])) (kind_line x.kind ++ joined (frame_lines x.frames)) in
    let b = length-append (line_of (codes "player") (x.player ∷ [])) (line_of (codes "turn") (x.turn ∷ []) ++ (kind_line x.kind ++ joined (frame_lines x.frames))) in
    let a = length-append (line_of (codes "evidence") (1 ∷ [])) (line_of (codes "player") (x.player ∷ []) ++ (line_of (codes "turn") (x.turn ∷ []) ++ (kind_line x.kind ++ joined (frame_lines x.frames)))) in
    omega arith
