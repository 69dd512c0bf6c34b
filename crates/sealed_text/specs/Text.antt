-- Text: the one text of a sealed exhibit.
use Rattle.std.specs.Prelude.{◌≡◌, ℕ, ◌<◌, ◌≤◌, ◌^◌, List, [], ◌∷◌, ◌++◌, length, codes}
use Rattle.hex.specs.Hex.{IsBytes, encode_lower}
use Rattle.definitions.specs.declared.frames.TurnFrame.{TurnFrame}
use Rattle.definitions.specs.declared.limits.TheConstants.{GREATEST_PLAYER}
use Rattle.definitions.specs.Lists.{EachIs}
use Rattle.definitions.specs.World.{Game}
use Rattle.text_lines.specs.Lines.{joined}
use Rattle.evidence.specs.Text.{FitsText, end_line, frame_line, head_lines}
use Rattle.seal_keys.specs.Seals.{seal_len}
use Rattle.sealed_evidence.specs.declared.sealed.SealedExhibit.{SealedExhibit}
use Rattle.sealed_text.specs.declared.limits.TheConstants.{MOST_SEALED_FRAMES}

-- `seal HEX`, the line of a seal: the hexadecimal text of its bytes
abbrev pub seal_line : List ℕ → List ℕ
seal_line seal = codes "seal " ++ (encode_lower seal ++ codes "\n")

-- the line of each frame and, right after it, that of its seal
abbrev pub pair_lines : List TurnFrame → List (List ℕ) → List (List ℕ)
pair_lines [] seals = []
pair_lines (frame ∷ frames) [] = []
pair_lines (frame ∷ frames) (seal ∷ seals) = frame_line frame ∷ seal_line seal ∷ pair_lines frames seals

abbrev pub sealed_lines : SealedExhibit → List (List ℕ)
sealed_lines x =
    head_lines 2 x.exhibit.player x.exhibit.turn x.exhibit.kind ++ (pair_lines x.exhibit.frames x.seals ++ (end_line ∷ []))

unfoldable pub sealed_text : SealedExhibit → List ℕ
sealed_text x = joined (sealed_lines x)

-- a seal of n bytes
abbrev pub FitsSeal : (n : ℕ) → List ℕ → Type 0
FitsSeal n seal = (length seal ≡ n) × IsBytes seal

-- a sealed exhibit that a text may say, with seals as long as those of the session
pub record IsSealed (game : Game) (x : SealedExhibit) : Type 0 where
  pub player : x.exhibit.player ≤ GREATEST_PLAYER
  pub turn : x.exhibit.turn < 2 ^ 32
  pub some : 0 < length x.exhibit.frames
  pub few : length x.exhibit.frames ≤ MOST_SEALED_FRAMES
  pub frames : EachIs FitsText x.exhibit.frames
  pub count : length x.seals ≡ length x.exhibit.frames
  pub seals : EachIs (FitsSeal (seal_len game)) x.seals
