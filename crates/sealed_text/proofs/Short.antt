-- Short: the text of a sealed exhibit has fewer bytes than decide what a file says.
use Rattle.std.proofs.Common.{ℕ, ◌+◌, ◌*◌, ◌≤◌, ◌<◌, List, [], ◌∷◌, ◌++◌, length, length-append, arith}
use Rattle.std.specs.Prelude.{codes}
use Rattle.std.specs.Fmt.{decimal}
use Rattle.std.proofs.lemmas.Fmt.{length-decimal-le}
use Rattle.hex.specs.Hex.{encode_lower, lower_digits}
use Rattle.hex.proofs.HexLemmas.{length-encode_with}
use Rattle.definitions.specs.declared.frames.TurnFrame.{TurnFrame}
use Rattle.definitions.specs.Lists.{EachIs}
use Rattle.definitions.specs.World.{Game}
use Rattle.text_lines.specs.Lines.{joined, line_of}
use Rattle.evidence.specs.Text.{end_line, exhibit_text, frame_line, frame_lines, kind_line}
use Rattle.evidence.proofs.Short.{text_short}
use Rattle.seal_keys.specs.Seals.{seal_len}
use Rattle.seal_keys.proofs.Heights.{tree_height_within}
use Rattle.sealed_evidence.specs.declared.sealed.SealedExhibit.{SealedExhibit}
use Rattle.sealed_text.specs.declared.limits.TheConstants.{SEALED_FRONT}
use Rattle.sealed_text.specs.Text.{FitsSeal, IsSealed, pair_lines, seal_line, sealed_text}

seal_short : (n : ℕ) (seal : List ℕ) → n ≤ 16832 → FitsSeal n seal → length (seal_line seal) ≤ 33670
seal_short n seal few fits =
    let count = fits.0 in
    let digits = length-encode_with lower_digits seal in
    let line = length-append (encode_lower seal) (codes "\n") in
    omega arith

-- so many seals more than the frames alone
pairs_short : (n : ℕ) (fs : List TurnFrame) (ss : List (List ℕ)) → n ≤ 16832 → EachIs (FitsSeal n) ss
    → length (joined (pair_lines fs ss ++ (end_line ∷ []))) ≤ length (joined (frame_lines fs)) + 33670 * length fs
pairs_short n [] ss few seals = omega arith
pairs_short n (f ∷ fs) [] few seals =
    let frames = length-append (frame_line f) (joined (frame_lines fs)) in
    omega arith
pairs_short n (f ∷ fs) (s ∷ ss) few seals =
    let one = seal_short n s few seals.0 in
    let ih = pairs_short n fs ss few seals.1 in
    let rest : List ℕ = joined (pair_lines fs ss ++ (end_line ∷ [])) in
    let frames = length-append (frame_line f) (joined (frame_lines fs)) in
    let pairs = length-append (frame_line f) (seal_line s ++ rest) in
    let seal = length-append (seal_line s) rest in
    omega arith

-- The text of the exhibit alone, in which only the version is another, ends before its own front.
pub sealed_short : (game : Game) (x : SealedExhibit) → IsSealed game x → length (sealed_text x) < SEALED_FRONT
unfolding sealed_text exhibit_text
sealed_short game x is =
    let height = tree_height_within game in
    let n : ℕ = seal_len game in
    let few = is.few in
    let alone = text_short x.exhibit (record { player = is.player; turn = is.turn; some = is.some; few = omega arith; frames = is.frames }) in
    let pairs = pairs_short n x.exhibit.frames x.seals (omega arith) is.seals in
    let digit = length-decimal-le 10 2 (omega arith) (omega arith) (omega arith) in
    let first = length-append (decimal 2) (codes "\n") in
    let player : List ℕ = line_of (codes "player") (x.exhibit.player ∷ []) in
    let turn : List ℕ = line_of (codes "turn") (x.exhibit.turn ∷ []) in
    let kind : List ℕ = kind_line x.exhibit.kind in
    let ends : List ℕ = joined (pair_lines x.exhibit.frames x.seals ++ (end_line ∷ [])) in
    let frames : List ℕ = joined (frame_lines x.exhibit.frames) in
    let a = length-append (line_of (codes "evidence") (2 ∷ [])) (player ++ (turn ++ (kind ++ ends))) in
    let b = length-append player (turn ++ (kind ++ ends)) in
    let d = length-append turn (kind ++ ends) in
    let e = length-append kind ends in
    let v = length-append (line_of (codes "evidence") (1 ∷ [])) (player ++ (turn ++ (kind ++ frames))) in
    let w = length-append player (turn ++ (kind ++ frames)) in
    let y = length-append turn (kind ++ frames) in
    let z = length-append kind frames in
    omega arith
