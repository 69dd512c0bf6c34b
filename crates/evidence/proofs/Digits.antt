-- Digits: those of a frame are few.
use Rattle.std.proofs.Common.{◌≡◌, ℕ, ◌<◌, List, length, Option, Some, None, refl, ap, ◌∙◌, arith}
use Rattle.hex.specs.Hex.{lower_digits}
use Rattle.hex.proofs.HexLemmas.{length-encode_with}
use Rattle.definitions.specs.declared.frames.TurnFrame.{TurnFrame}
use Rattle.definitions.specs.declared.limits.TheConstants.{LONGEST_LINE}
use Rattle.commitment.specs.Spelling.{frame_bytes}
use Rattle.commitment.proofs.Reading.{frame_short}
use Rattle.byte_fields.specs.Fronts.{◌>>=◌}
use Rattle.text_fields.specs.Hexes.{frame_of}
use Rattle.evidence.specs.Reading.{digits_said, frame_said}
use Rattle.text_fields.proofs.HexFields.{frame_spelled}

-- a text that is longer than a line is no frame
pub frame_of-long : (text : List ℕ) → LONGEST_LINE < length text → None ≡ frame_of text
frame_of-long text long = go (frame_of text) refl
  where
    go : (o : Option TurnFrame) → frame_of text ≡ o → None ≡ o
    go None e = refl
    go (Some f) e =
        let h = frame_spelled text f e in
        let few = frame_short f h.0 in
        let digits = length-encode_with lower_digits (frame_bytes f) in
        let same = ap length h.2 in
        absurd (omega arith)

-- a line whose digits are longer says no frame
pub frame_said-long : (line digits : List ℕ) → Some digits ≡ digits_said line → LONGEST_LINE < length digits → None ≡ frame_said line
unfolding frame_said
frame_said-long line digits h long = frame_of-long digits long ∙ ap (λ (o : Option (List ℕ)). o >>= frame_of) h
