-- Laws: what is written is read.
use Rattle.std.specs.Prelude.{◌≡◌, ℕ, Option, Some, None}
use Rattle.definitions.specs.declared.frames.TurnFrame.{TurnFrame}
use Rattle.definitions.specs.Logs.{player_of}
use Rattle.commitment.specs.Spelling.{FitsFrame}
use Rattle.wire_frames.specs.declared.frames.Frame.TheVariants.{Hello}
use Rattle.wire_frames.specs.Spelling.{Fits}
use Rattle.letters.specs.declared.letter.Letter.{Letter}
use Rattle.letters.specs.Reading.{letter_in}
use Rattle.letters.specs.Spelling.{letter_bytes}

-- the frame is of this player, and its numbers fit their fields
abbrev pub IsPart : (player : ℕ) → Option TurnFrame → Type 0
IsPart p None = Unit {0}
IsPart p (Some f) = (player_of f ≡ p) × FitsFrame f

-- The letter's numbers fit their fields, as those of every value of its type do, and its frame is of
-- the player who greets.
abbrev pub IsLetter : Letter → Type 0
IsLetter l = Fits (Hello l.id l.player l.pass l.next) × IsPart l.player l.frame

-- the bytes of a letter are read as it
abbrev pub LettersAreRead : Type 0
LettersAreRead = (l : Letter) → IsLetter l → letter_in (letter_bytes l) ≡ Some l
