-- Coming: what becomes of frames that come from a player, and of bytes that spell them.
use Rattle.std.specs.Prelude.{ℕ, List, [], ◌∷◌, ◌++◌, length, if◌then◌else◌}
use Rattle.definitions.specs.declared.frames.TurnFrame.{TurnFrame}
use Rattle.definitions.specs.declared.logs.Entry.{Entry}
use Rattle.definitions.specs.World.{Game}
use Rattle.definitions.specs.Findings.{is_clean}
use Rattle.definitions.specs.Answers.{got_answer, place_of}
use Rattle.definitions.specs.Steps.{after_got}
use Rattle.wire_frames.specs.declared.frames.Frame.{Frame}
use Rattle.wire_frames.specs.declared.frames.Frame.TheVariants.{Hello, Turn, Want}
use Rattle.wire_frames.specs.Reading.{Reading}
use Rattle.wire_frames.specs.Streams.{given_of}
use Rattle.drive_command.specs.Driven.{State, reader_of, with_reader}
use Rattle.report_lines.specs.Lines.{got_text, hello_text, want_text, bad_text, added_text}

-- what is written about a commitment or a reveal that comes from q: the peer's answer, and then each frame that it made by it
unfoldable pub received_text : Game → ℕ → List Entry → ℕ → TurnFrame → List ℕ
received_text game me h q f = got_text q (place_of game f) (got_answer game me h q f) ++ added_text (length h) (after_got game me h q f)

-- what is written about any frame that comes from q
abbrev pub coming_text : Game → ℕ → List Entry → ℕ → Frame → List ℕ
coming_text game me h q (Turn f) = received_text game me h q f
coming_text game me h q (Hello id p pass next) = hello_text q
coming_text game me h q (Want place) = want_text q place

-- the log behind it: only a commitment or a reveal changes it
abbrev pub log_behind_frame : Game → ℕ → List Entry → ℕ → Frame → List Entry
log_behind_frame game me h q (Turn f) = after_got game me h q f
log_behind_frame game me h q (Hello id p pass next) = h
log_behind_frame game me h q (Want place) = h

-- the log at the end of what follows: where it has a finding already it is that one, and otherwise the one that follows leaves
abbrev pub log_on : Game → (now last : List Entry) → List Entry
log_on game now last = if is_clean game now then last else now

-- the text of what follows, which is dropped where the log has a finding already
abbrev pub text_on : Game → (now : List Entry) → (rest : List ℕ) → List ℕ
text_on game now rest = if is_clean game now then rest else []

-- the log behind frames that come from q one by one, up to the first that makes a finding
unfoldable pub log_through : Game → ℕ → List Entry → ℕ → List Frame → List Entry
log_through game me h q [] = h
log_through game me h q (f ∷ fs) = log_on game (log_behind_frame game me h q f) (log_through game me (log_behind_frame game me h q f) q fs)

-- what is written about the bad byte at which a reader of q's bytes stands, if it stands at one
abbrev pub bad_byte_text : ℕ → Reading → List ℕ
bad_byte_text q r = if r.bad then bad_text q r.place else []

-- what is written about frames that come from q one by one, up to the first that makes a finding, and then about the bad byte
-- at which the reader of q's bytes stands behind them
unfoldable pub text_through : Game → ℕ → List Entry → ℕ → List Frame → Reading → List ℕ
text_through game me h q [] r = bad_byte_text q r
text_through game me h q (f ∷ fs) r = coming_text game me h q f ++ text_on game (log_behind_frame game me h q f) (text_through game me (log_behind_frame game me h q f) q fs r)

-- what is written about bytes that come from q behind those that came before: the frames that they make whole, and a bad byte
unfoldable pub bytes_text : Game → ℕ → State → ℕ → List ℕ → List ℕ
bytes_text game me s q bytes = text_through game me s.log q (given_of (reader_of s q) bytes).frames (given_of (reader_of s q) bytes).reader

-- what the peer has behind them
unfoldable pub bytes_state : Game → ℕ → State → ℕ → List ℕ → State
bytes_state game me s q bytes = record {
  log = log_through game me s.log q (given_of (reader_of s q) bytes).frames;
  readers = with_reader s.readers q (given_of (reader_of s q) bytes).reader;
}
