-- Spelling: the bytes of the datagram that says a letter.
use Rattle.std.specs.Prelude.{ℕ, List, [], ◌++◌, Option, Some, None}
use Rattle.definitions.specs.declared.frames.TurnFrame.{TurnFrame}
use Rattle.commitment.specs.Spelling.{frame_bytes}
use Rattle.wire_frames.specs.declared.frames.Frame.TheVariants.{Hello}
use Rattle.wire_frames.specs.Spelling.{spelling}
use Rattle.letters.specs.declared.letter.Letter.{Letter}

-- the greeting in front of a letter
abbrev pub greeting : Letter → List ℕ
greeting l = spelling (Hello l.id l.player l.pass l.next)

-- the frame behind it, if there is one
abbrev pub frame_part : Option TurnFrame → List ℕ
frame_part None = []
frame_part (Some f) = frame_bytes f

-- the one spelling of a letter
abbrev pub letter_bytes : Letter → List ℕ
letter_bytes l = greeting l ++ frame_part l.frame
