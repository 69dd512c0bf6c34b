-- Fair: the log of a peer that is driven is honest, and its reveals stand after the commitments of all that meet.
use Rattle.std.proofs.Common.{Bool, List, [], false, true, ℕ, ◌+◌, ◌∷◌, ◌≤◌}
use Rattle.definitions.specs.declared.logs.Entry.{Entry}
use Rattle.definitions.specs.World.{Game}
use Rattle.std.specs.Prelude.{if◌then◌else◌}
use Rattle.definitions.specs.Findings.{is_clean}
use Rattle.definitions.specs.Honest.{IsHonest}
use Rattle.definitions.specs.Advance.{advance}
use Rattle.line_io.specs.Inputs.{Input, lines_in}
use Rattle.definition_laws.proofs.Advances.{advance_honest}
use Rattle.definition_laws.proofs.Stepping.{choice_honest, got_honest}
use Rattle.wire_frames.specs.declared.frames.Frame.{Frame}
use Rattle.wire_frames.specs.declared.frames.Frame.TheVariants.{Hello, Turn, Want}
use Rattle.wire_frames.specs.Streams.{given_of}
use Rattle.drive_command.specs.declared.grammar.DriveLine.{DriveLine}
use Rattle.drive_command.specs.declared.grammar.DriveLine.TheVariants.{Bad, Bytes, Choose, Log, Nothing, Score}
use Rattle.drive_command.specs.declared.grammar.DriveLine.TheVariants as D
use Rattle.drive_command.specs.Grammar.{is_bad}
use Rattle.drive_command.specs.Driven.{State, fresh_state, reader_of}
use Rattle.drive_command.specs.Coming.{bytes_state, log_behind_frame, log_on, log_through}
use Rattle.drive_command.specs.Drive.{drive_log, log_by, log_from, said_behind, state_behind}
use Rattle.definition_laws.specs.FairPlay.{IsFairPlay}
use Rattle.definition_laws.proofs.Fair.{honest_fair}

on_honest : (game : Game) (me : ℕ) (now last : List Entry) → IsHonest game me now → IsHonest game me last → IsHonest game me (log_on game now last)
on_honest game me now last i j = go (is_clean game now)
  where
    go : (b : Bool) → IsHonest game me (if b then last else now)
    go true = j
    go false = i

-- a frame that comes
frame_honest : (game : Game) (me : ℕ) (h : List Entry) (q : ℕ) (f : Frame) → IsHonest game me h → IsHonest game me (log_behind_frame game me h q f)
frame_honest game me h q (Turn f) i = got_honest game me q h f i
frame_honest game me h q (Hello id p pass next) i = i
frame_honest game me h q (Want place) i = i

frames_honest : (game : Game) (me : ℕ) (h : List Entry) (q : ℕ) (fs : List Frame) → IsHonest game me h → IsHonest game me (log_through game me h q fs)
unfolding log_through
frames_honest game me h q [] i = i
frames_honest game me h q (f ∷ fs) i =
    let next = log_behind_frame game me h q f in
    let j = frame_honest game me h q f i in
    on_honest game me next (log_through game me next q fs) j (frames_honest game me next q fs j)

behind_honest : (game : Game) (me : ℕ) (s : State) (d : DriveLine) → 1 ≤ game.ahead → IsHonest game me s.log → IsHonest game me (state_behind game me s d).log
unfolding state_behind bytes_state
behind_honest game me s Nothing a i = i
behind_honest game me s (Choose mv nonce) a i = choice_honest game me s.log mv nonce a i
behind_honest game me s (D.Got q f) a i = got_honest game me q s.log f i
behind_honest game me s (Bytes q bytes) a i = frames_honest game me s.log q (given_of (reader_of s q) bytes).frames i
behind_honest game me s Log a i = i
behind_honest game me s Score a i = i
behind_honest game me s Bad a i = i

by_honest : (game : Game) (me : ℕ) (now last : List Entry) (bad : Bool) → IsHonest game me now → IsHonest game me last → IsHonest game me (log_by bad now last)
by_honest game me now last true i j = i
by_honest game me now last false i j = j

from_honest : (game : Game) (me : ℕ) (s : State) (n : ℕ) (lines : List (List ℕ)) → 1 ≤ game.ahead → IsHonest game me s.log → IsHonest game me (log_from game me s n lines)
from_honest game me s n [] a i = i
from_honest game me s n (line ∷ lines) a i =
    let next : State = state_behind game me s (said_behind game n line) in
    let j = behind_honest game me s (said_behind game n line) a i in
    by_honest game me s.log (log_on game next.log (log_from game me next (n + 1) lines)) (is_bad (said_behind game n line)) i
    (on_honest game me next.log (log_from game me next (n + 1) lines) j (from_honest game me next (n + 1) lines a j))

-- a log that begins honest ends so
pub log_honest : (game : Game) (me : ℕ) (first : List Entry) (input : Input) → 1 ≤ game.ahead → IsHonest game me first → IsHonest game me (drive_log game me first input)
unfolding drive_log
log_honest game me first input a i =
    let j = advance_honest game me first i in
    let next = advance game me first in
    on_honest game me next (log_from game me (fresh_state next) 0 (lines_in input)) j (from_honest game me (fresh_state next) 0 (lines_in input) a j)

pub drive_fair : (game : Game) (me : ℕ) (first : List Entry) (input : Input) → 1 ≤ game.ahead → IsHonest game me first → IsFairPlay game me (drive_log game me first input)
drive_fair game me first input a i = honest_fair game me (drive_log game me first input) a (log_honest game me first input a i)
