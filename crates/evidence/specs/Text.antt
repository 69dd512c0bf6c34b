-- The one text of an exhibit.
use Rattle.std.specs.Prelude.{ℕ, ◌<◌, ◌≤◌, ◌^◌, List, [], ◌∷◌, ◌++◌, length, map, codes}
use Rattle.hex.specs.Hex.{IsBytes, encode_lower}
use Rattle.definitions.specs.declared.frames.TurnFrame.{TurnFrame}
use Rattle.definitions.specs.declared.findings.Kind.{Kind}
use Rattle.definitions.specs.declared.limits.TheConstants.{GREATEST_PLAYER, MOST_EVIDENCE_FRAMES}
use Rattle.definitions.specs.Lists.{EachIs}
use Rattle.commitment.specs.Spelling.{frame_bytes, FitsFrame}
use Rattle.text_lines.specs.Lines.{line_of, joined}
use Rattle.text_fields.specs.Kinds.{kind_name}
use Rattle.evidence.specs.declared.exhibit.Exhibit.{Exhibit}

-- the line that says what kind it is
abbrev pub kind_line : Kind → List ℕ
kind_line kind = codes "kind " ++ kind_name kind ++ codes "\n"

-- the line of a frame: the hexadecimal text of its bytes
abbrev pub frame_line : TurnFrame → List ℕ
frame_line f = codes "frame " ++ encode_lower (frame_bytes f) ++ codes "\n"

abbrev pub end_line : List ℕ
end_line = line_of (codes "end") []

-- the lines before those of the frames, in a text of this version
abbrev pub head_lines : (version q t : ℕ) → Kind → List (List ℕ)
head_lines version q t kind =
    line_of (codes "evidence") (version ∷ []) ∷ line_of (codes "player") (q ∷ []) ∷ line_of (codes "turn") (t ∷ []) ∷ kind_line kind ∷ []

-- those of the frames, and `end`
abbrev pub frame_lines : List TurnFrame → List (List ℕ)
frame_lines fs = map frame_line fs ++ (end_line ∷ [])

abbrev pub exhibit_lines : Exhibit → List (List ℕ)
exhibit_lines x = head_lines 1 x.player x.turn x.kind ++ frame_lines x.frames

unfoldable pub exhibit_text : Exhibit → List ℕ
exhibit_text x = joined (exhibit_lines x)

-- a frame whose numbers fit their fields, and whose digest or nonce is of bytes, as those of every value of its type are
abbrev pub FitsText : TurnFrame → Type 0
FitsText f = FitsFrame f × IsBytes (frame_bytes f)

-- an exhibit that a text may say
pub record IsExhibit (x : Exhibit) : Type 0 where
  pub player : x.player ≤ GREATEST_PLAYER
  pub turn : x.turn < 2 ^ 32
  pub some : 0 < length x.frames
  pub few : length x.frames ≤ MOST_EVIDENCE_FRAMES
  pub frames : EachIs FitsText x.frames
