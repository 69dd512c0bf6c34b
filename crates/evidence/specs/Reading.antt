-- What an evidence text says, line by line, and the first line that is not in its grammar.
use Rattle.std.specs.Prelude.{ℕ, suc, ◌+◌, ◌-◌, Bool, not, List, [], ◌∷◌, length, take, drop, Option, Some, None, Result, Ok, Err, bytes_eq, nat_lt, ◌==◌, ◌&&◌, if◌then◌else◌, codes}
use Rattle.definitions.specs.declared.frames.TurnFrame.{TurnFrame}
use Rattle.definitions.specs.declared.findings.Kind.{Kind}
use Rattle.definitions.specs.declared.findings.Kind.TheVariants.{TwoCommits, BadOpening, Collision, Illegal}
use Rattle.definitions.specs.declared.limits.TheConstants.{GREATEST_PLAYER, MOST_EVIDENCE_FRAMES}
use Rattle.byte_fields.specs.Fronts.{behind}
use Rattle.byte_fields.specs.Fronts as fronts
use Rattle.text_lines.specs.Lines.{ended_lines_of, is_bare, one_within}
use Rattle.text_lines.specs.Reading.{◌>>=◌, ends_at, fault_of, line_at, or_fault}
use Rattle.text_fields.specs.declared.fault.TextFault.{TextFault}
use Rattle.text_fields.specs.declared.fault.TextFault.TheVariants.{At}
use Rattle.text_fields.specs.Hexes.{frame_of}
use Rattle.evidence.specs.declared.exhibit.Exhibit.{Exhibit}
use Rattle.evidence.specs.declared.head.Head.{Head}
use Rattle.evidence.specs.Text.{kind_line}

-- the kind that a line says
abbrev pub kind_said : List ℕ → Option Kind
kind_said line =
    if bytes_eq line (kind_line TwoCommits) then Some TwoCommits
    else if bytes_eq line (kind_line BadOpening) then Some BadOpening
    else if bytes_eq line (kind_line Collision) then Some Collision
    else if bytes_eq line (kind_line Illegal) then Some Illegal
    else None

-- what stands before this end
abbrev pub before : List ℕ → List ℕ → Option (List ℕ)
before end text =
    if bytes_eq (drop (length text - length end) text) end then Some (take (length text - length end) text) else None

-- the digits of a frame's line
abbrev pub digits_said : List ℕ → Option (List ℕ)
digits_said line = fronts.◌>>=◌ (behind (codes "frame ") line) (before (codes "\n"))

-- the frame that a line says
unfoldable pub frame_said : List ℕ → Option TurnFrame
frame_said line = fronts.◌>>=◌ (digits_said line) frame_of

-- what the lines before those of the frames say of an exhibit
abbrev pub head_of : Exhibit → Head
head_of x = record { player = x.player; turn = x.turn; kind = x.kind }

-- lines 1 to 4 of a text of this version: the version, the player, the turn and the kind, and the lines that follow
unfoldable pub head_at : (version : ℕ) → List (List ℕ) → Result (Head × List (List ℕ)) TextFault
head_at version lines = do
  first ← line_at (At 1) (one_within (codes "evidence") version version) lines
  player ← line_at (At 2) (one_within (codes "player") 0 GREATEST_PLAYER) first.1
  turn ← line_at (At 3) (one_within (codes "turn") 0 4294967295) player.1
  kind ← line_at (At 4) kind_said turn.1
  Ok (record { player = player.0; turn = turn.0; kind = kind.0 }, kind.1)

-- the number of the line behind so many frames
abbrev pub line_behind : (count : ℕ) → ℕ
line_behind count = count + 5

-- the frame of a line behind so many frames, of which there may be one more
unfoldable pub frame_at : (count : ℕ) → List ℕ → Result TurnFrame TextFault
frame_at count line = or_fault (At (line_behind count)) (if nat_lt count MOST_EVIDENCE_FRAMES then frame_said line else None)

-- the line behind so many frames is `end`, which none is before any frame
abbrev pub is_end : (count : ℕ) → List ℕ → Bool
is_end count line = is_bare (codes "end") line && not (count == 0)

-- the frames behind so many, and `end`
unfoldable pub frames_at : (count : ℕ) → List (List ℕ) → Result (List TurnFrame) TextFault
frames_at count [] = Err (At (line_behind count))
frames_at count (line ∷ lines) = if is_end count line then ends_at (At (line_behind (suc count))) lines else (do
  frame ← frame_at count line
  others ← frames_at (suc count) lines
  Ok (frame ∷ others))

-- the exhibit that these lines say, or the first of them that is at fault
unfoldable pub said_by : List (List ℕ) → Result Exhibit TextFault
said_by lines = do
  head ← head_at 1 lines
  frames ← frames_at 0 head.1
  Ok (record { player = head.0.player; turn = head.0.turn; kind = head.0.kind; frames = frames })

-- the exhibit that a text says, or its first line at fault
unfoldable pub exhibit_at : List ℕ → Result Exhibit TextFault
exhibit_at text = said_by (ended_lines_of text)

-- the first line of a text that is at fault
abbrev pub exhibit_fault : List ℕ → Option TextFault
exhibit_fault text = fault_of (exhibit_at text)
