-- Reading: the letter that the bytes of a datagram spell, if they spell one.
use Rattle.std.specs.Prelude.{ℕ, ◌==◌, List, [], ◌∷◌, drop, Option, Some, None, if◌then◌else◌}
use Rattle.definitions.specs.declared.frames.TurnFrame.{TurnFrame}
use Rattle.definitions.specs.Logs.{player_of}
use Rattle.commitment.specs.Spelling.{turn_frame_of}
use Rattle.wire_frames.specs.declared.frames.Frame.{Frame}
use Rattle.wire_frames.specs.declared.frames.Frame.TheVariants.{Hello, Turn, Want}
use Rattle.wire_frames.specs.declared.frames.FedWhat.{FedWhat}
use Rattle.wire_frames.specs.declared.frames.FedWhat.TheVariants as what
use Rattle.wire_frames.specs.Reading.{Step, at_start, fed_step}
use Rattle.letters.specs.declared.letter.Letter.{Letter}

-- the greeting that a frame is, as a letter without a frame
abbrev pub letter_by : Frame → Option Letter
letter_by (Hello id p pass next) = Some (record { id = id; player = p; pass = pass; next = next; frame = None })
letter_by (Turn f) = None
letter_by (Want place) = None

-- the greeting that was found
abbrev pub letter_of : FedWhat → Option Letter
letter_of what.More = None
letter_of (what.Whole f) = letter_by f
letter_of (what.Bad place) = None

-- the letter with this frame, which is of the player who greets
abbrev pub with_frame : Letter → Option TurnFrame → Option Letter
with_frame l None = None
with_frame l (Some f) = if player_of f == l.player then Some (record l { frame = Some f }) else None

-- the letter with what stands behind its greeting: nothing, or one frame and nothing behind it
abbrev pub frame_behind : Letter → List ℕ → Option Letter
frame_behind l [] = Some l
frame_behind l (b ∷ bytes) = with_frame l (turn_frame_of (b ∷ bytes))

-- the same, where there is a greeting
abbrev pub behind_hello : Option Letter → List ℕ → Option Letter
behind_hello None rest = None
behind_hello (Some l) rest = frame_behind l rest

-- what stands behind the first frame, read by a reader at its start
abbrev pub letter_by_step : Step → List ℕ → Option Letter
letter_by_step s bytes = behind_hello (letter_of s.fed.what) (drop s.fed.used bytes)

-- the letter that these bytes spell: the first frame in them is a greeting
abbrev pub letter_in : List ℕ → Option Letter
letter_in bytes = letter_by_step (fed_step at_start bytes) bytes
