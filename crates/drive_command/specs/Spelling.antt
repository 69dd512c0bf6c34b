-- Spelling: the text of each line of a script, from the parts that the line says.
use Rattle.std.specs.Prelude.{ℕ, ◌≡◌, ◌≤◌, ◌<◌, ◌⊎◌, List, [], ◌++◌, Option, Some, None, length, codes}
use Rattle.hex.specs.Hex.{IsBytes, encode_lower}
use Rattle.definitions.specs.declared.limits.TheConstants.{GREATEST_PLAYER}
use Rattle.definitions.specs.declared.world.Cell.{Cell}
use Rattle.definitions.specs.declared.world.Move.{Move}
use Rattle.definitions.specs.declared.openings.Nonce.{Nonce}
use Rattle.definitions.specs.declared.frames.TurnFrame.{TurnFrame}
use Rattle.definitions.specs.Openings.{FitsCell, FitsStrike}
use Rattle.commitment.specs.Spelling.{frame_bytes, FitsFrame}
use Rattle.text_fields.specs.Spelling.{number_text, FitsNonce}
use Rattle.text_fields.specs.Choices.{choice_text}
use Rattle.drive_command.specs.declared.grammar.DriveLine.{DriveLine}
use Rattle.drive_command.specs.declared.grammar.DriveLine.TheVariants.{Nothing, Choose, Got, Bytes, Log, Score, Bad}

-- `choose X Y NONCE` or `choose X Y SX SY NONCE`
unfoldable pub choose_text : Move → Nonce → List ℕ
choose_text mv nonce = codes "choose " ++ choice_text mv nonce

-- `got Q FRAME`
unfoldable pub got_text : ℕ → TurnFrame → List ℕ
got_text q frame = codes "got " ++ (number_text q ++ encode_lower (frame_bytes frame))

-- `bytes Q HEX`
unfoldable pub bytes_text : ℕ → List ℕ → List ℕ
bytes_text q bytes = codes "bytes " ++ (number_text q ++ encode_lower bytes)

-- the line is empty, or begins with `#`
abbrev pub IsPassedOver : List ℕ → Type 0
IsPassedOver line = (line ≡ []) ⊎ ((comment : List ℕ) × (line ≡ codes "#" ++ comment))

-- what a line says: the parts fit their limits, and the line is spelled from them. Bytes may come from players up to the last one. No
-- line says `Bad`
abbrev pub Says : (last : ℕ) → List ℕ → DriveLine → Type 0
Says last line Nothing = IsPassedOver line
Says last line (Choose mv nonce) = FitsCell mv.to × FitsStrike mv.strike × FitsNonce nonce × (line ≡ choose_text mv nonce)
Says last line (Got q frame) = (q ≤ GREATEST_PLAYER) × FitsFrame frame × IsBytes (frame_bytes frame) × (line ≡ got_text q frame)
Says last line (Bytes q bytes) = (q ≤ last) × (0 < length bytes) × IsBytes bytes × (line ≡ bytes_text q bytes)
Says last line Log = line ≡ codes "log"
Says last line Score = line ≡ codes "score"
Says last line Bad = ⊥
