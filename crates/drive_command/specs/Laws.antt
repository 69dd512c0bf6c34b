-- Laws on scripts: how a run ends, and what its log shows.
use Rattle.std.specs.Prelude.{◌≡◌, ℕ, ◌+◌, ◌<◌, ◌≤◌, List, [], ◌∷◌, ◌++◌, ◌==◌, flat_map, if◌then◌else◌}
use Rattle.definitions.specs.declared.logs.Entry.{Entry}
use Rattle.definitions.specs.World.{Game}
use Rattle.definitions.specs.Findings.{is_clean}
use Rattle.definitions.specs.Honest.{IsHonest}
use Rattle.line_io.specs.Inputs.{Input, ending_of, lines_in}
use Rattle.definitions.specs.Advance.{advance}
use Rattle.definitions.specs.Steps.{LogStep, Chooses, Comes, log_run}
use Rattle.wire_frames.specs.declared.frames.Frame.{Frame}
use Rattle.wire_frames.specs.declared.frames.Frame.TheVariants.{Hello, Turn, Want}
use Rattle.wire_frames.specs.Streams.{end_of, given_of, stream_of}
use Rattle.drive_command.specs.declared.grammar.DriveLine.{DriveLine}
use Rattle.drive_command.specs.declared.grammar.DriveLine.TheVariants.{Nothing, Choose, Got, Bytes, Log, Score, Bad}
use Rattle.drive_command.specs.Grammar.{is_bad}
use Rattle.drive_command.specs.declared.readers.TheConstants.{READERS}
use Rattle.drive_command.specs.Driven.{State, fresh_state, reader_of}
use Rattle.drive_command.specs.Drive.{drive, drive_log, bad_line, said_behind, state_behind, status_for}
use Rattle.definition_laws.specs.FairPlay.{IsFairPlay}
use Rattle.drive_command.specs.Telling.{TellsLog}

-- a run ends by a finding of its last log, or else by the first bad line of its script, or else as reading the script ends
abbrev pub LogsAndLinesDecide : Type 0
LogsAndLinesDecide = (game : Game) (me : ℕ) (first : List Entry) (input : Input) →
    (drive game me first input).status ≡ status_for (is_clean game (drive_log game me first input)) (bad_line game 0 (lines_in input)) (ending_of input)

-- a peer that begins with an honest log plays fair, whatever the script says
abbrev pub PeersPlayFair : Type 0
PeersPlayFair = (game : Game) (me : ℕ) (first : List Entry) (input : Input) → 1 ≤ game.ahead → IsHonest game me first →
    IsFairPlay game me (drive_log game me first input)

-- what is written tells the log that the peer has
abbrev pub TextsTellLogs : Type 0
TextsTellLogs = (game : Game) (me : ℕ) (first : List Entry) (input : Input) →
    TellsLog game me first (drive_log game me first input) (drive game me first input).body

-- the bytes that a line brings from the player, if it brings any
abbrev pub piece_of : (q : ℕ) → DriveLine → List (List ℕ)
piece_of q (Bytes p bytes) = if p == q then bytes ∷ [] else []
piece_of q Nothing = []
piece_of q (Choose mv nonce) = []
piece_of q (Got p f) = []
piece_of q Log = []
piece_of q Score = []
piece_of q Bad = []

-- all bytes that these lines bring from the player, which come behind n lines
abbrev pub bytes_of : Game → (q n : ℕ) → List (List ℕ) → List ℕ
bytes_of game q n [] = []
bytes_of game q n (line ∷ lines) = flat_map (λ piece. piece) (piece_of q (said_behind game n line)) ++ bytes_of game q (n + 1) lines

-- what the peer has behind these lines, which come behind n lines
abbrev pub state_from : Game → ℕ → State → ℕ → List (List ℕ) → State
state_from game me s n [] = s
state_from game me s n (line ∷ lines) = state_from game me (state_behind game me s (said_behind game n line)) (n + 1) lines

-- The frames that a line's bytes give behind these lines, and the bad byte that they come to, are those which the stream of all
-- that came from the player has with these bytes and hadn't without them.
pub record GivesTheNext (game : Game) (me : ℕ) (first : List Entry) (lines : List (List ℕ)) (q : ℕ) (bytes : List ℕ) : Type 0 where
  pub frames : (stream_of (bytes_of game q 0 lines ++ bytes)).frames ≡
      (stream_of (bytes_of game q 0 lines)).frames ++ (given_of (reader_of (state_from game me (fresh_state first) 0 lines) q) bytes).frames
  pub ends : (stream_of (bytes_of game q 0 lines ++ bytes)).ends ≡ end_of (given_of (reader_of (state_from game me (fresh_state first) 0 lines) q) bytes).reader

-- what comes from a player in lines is one stream, however the lines cut it
abbrev pub LinesAreOneStream : Type 0
LinesAreOneStream = (game : Game) (me : ℕ) (first : List Entry) (lines : List (List ℕ)) (q : ℕ) (bytes : List ℕ) → q < READERS → GivesTheNext game me first lines q bytes

-- the commitments and reveals among frames that come from the player, as steps of a log
abbrev pub steps_in : (q : ℕ) → List Frame → List LogStep
steps_in q [] = []
steps_in q (Turn f ∷ fs) = Comes q f ∷ steps_in q fs
steps_in q (Hello id p pass next ∷ fs) = steps_in q fs
steps_in q (Want place ∷ fs) = steps_in q fs

-- the steps that a line brings, where the peer has this
abbrev pub steps_of : State → DriveLine → List LogStep
steps_of s (Choose mv nonce) = Chooses mv nonce ∷ []
steps_of s (Got q f) = Comes q f ∷ []
steps_of s (Bytes q bytes) = steps_in q (given_of (reader_of s q) bytes).frames
steps_of s Nothing = []
steps_of s Log = []
steps_of s Score = []
steps_of s Bad = []

-- the steps of these lines, which come behind n lines, up to the first that is in no grammar
abbrev pub steps_from : Game → ℕ → State → ℕ → List (List ℕ) → List LogStep
steps_from game me s n [] = []
steps_from game me s n (line ∷ lines) =
    if is_bad (said_behind game n line) then [] else steps_of s (said_behind game n line) ++ steps_from game me (state_behind game me s (said_behind game n line)) (n + 1) lines

-- The log that a peer has at the end of its run is that of the protocol's steps, one behind the other, which its script's lines
-- bring: after a finding no step changes a log.
abbrev pub DrivesAreRuns : Type 0
DrivesAreRuns = (game : Game) (me : ℕ) (first : List Entry) (input : Input) → let h = advance game me first in
    drive_log game me first input ≡ log_run game me h (steps_from game me (fresh_state h) 0 (lines_in input))
