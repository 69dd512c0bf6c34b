-- Grammar: what a line of a script says.
use Rattle.std.specs.Prelude.{ℕ, ◌≤◌, Bool, true, false, List, [], ◌∷◌, length, Option, Some, None, bytes_eq, ◌==◌, codes, if◌then◌else◌}
use Rattle.definitions.specs.declared.limits.TheConstants.{GREATEST_PLAYER, LONGEST_PIECE}
use Rattle.byte_fields.specs.Fronts.{◌>>=◌, behind}
use Rattle.text_fields.specs.Numbers.{number_then}
use Rattle.text_fields.specs.Choices.{move_then_nonce, or_else}
use Rattle.text_fields.specs.Hexes.{frame_of, bytes_of}
use Rattle.drive_command.specs.declared.grammar.DriveLine.{DriveLine}
use Rattle.drive_command.specs.declared.grammar.DriveLine.TheVariants.{Nothing, Choose, Got, Bytes, Log, Score, Bad}

-- a move and its nonce
unfoldable pub chosen_of : List ℕ → Option DriveLine
chosen_of text = do
  choice ← move_then_nonce text
  Some (Choose choice.0 choice.1)

-- `Q FRAME`
unfoldable pub got_of : List ℕ → Option DriveLine
got_of text = do
  from ← number_then GREATEST_PLAYER text
  frame ← frame_of from.1
  Some (Got from.0 frame)

-- `Q HEX`, with Q up to the last player
unfoldable pub piece_of : (last : ℕ) → List ℕ → Option DriveLine
piece_of last text = do
  from ← number_then last text
  bytes ← bytes_of from.1
  Some (Bytes from.0 bytes)

-- the reading, or none of the grammar
abbrev pub or_bad : Option DriveLine → DriveLine
or_bad None = Bad
or_bad (Some line) = line

-- `choose X Y NONCE` or `choose X Y SX SY NONCE`
unfoldable pub choose_of : List ℕ → Option DriveLine
choose_of line = behind (codes "choose ") line >>= chosen_of

-- `got Q FRAME`
unfoldable pub frame_from : List ℕ → Option DriveLine
frame_from line = behind (codes "got ") line >>= got_of

-- `bytes Q HEX`
unfoldable pub bytes_from : (last : ℕ) → List ℕ → Option DriveLine
bytes_from last line = behind (codes "bytes ") line >>= piece_of last

-- a frame or bytes that come from a player
unfoldable pub coming_of : (last : ℕ) → List ℕ → Option DriveLine
coming_of last line = or_else (frame_from line) (bytes_from last line)

-- `log`, `score`, a choice, or what comes from a player
unfoldable pub word_line : (last : ℕ) → List ℕ → Option DriveLine
word_line last line =
    if bytes_eq line (codes "log") then Some Log
    else if bytes_eq line (codes "score") then Some Score
    else or_else (choose_of line) (coming_of last line)

-- it is empty, or a comment
abbrev pub is_passed_over : List ℕ → Bool
is_passed_over [] = true
is_passed_over (b ∷ line) = b == 35

-- what a line says, where bytes may come from players up to the last one
unfoldable pub line_of : (last : ℕ) → List ℕ → DriveLine
line_of last line = if is_passed_over line then Nothing else or_bad (word_line last line)

-- bytes come from a player up to the last one, and are at most so many
abbrev pub IsFew : (last : ℕ) → DriveLine → Type 0
IsFew last (Bytes q bytes) = (q ≤ last) × (length bytes ≤ LONGEST_PIECE)
IsFew last Nothing = Unit {0}
IsFew last (Choose mv nonce) = Unit {0}
IsFew last (Got q f) = Unit {0}
IsFew last Log = Unit {0}
IsFew last Score = Unit {0}
IsFew last Bad = Unit {0}

-- the line is in no grammar
abbrev pub is_bad : DriveLine → Bool
is_bad Bad = true
is_bad Nothing = false
is_bad (Choose mv nonce) = false
is_bad (Got q f) = false
is_bad (Bytes q bytes) = false
is_bad Log = false
is_bad Score = false
