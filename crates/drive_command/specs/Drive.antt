-- Drive: what the lines of a script do to a peer's log, and what is written about them.
use Rattle.std.specs.Prelude.{ℕ, ◌+◌, Bool, true, false, ◌||◌, List, [], ◌∷◌, ◌++◌, Option, Some, None, length, nat_lt, nat_le, slice_get, if◌then◌else◌}
use Rattle.definitions.specs.declared.logs.Entry.{Entry}
use Rattle.definitions.specs.World.{Game}
use Rattle.definitions.specs.Logs.{chosen}
use Rattle.definitions.specs.Needs.{choice_fault}
use Rattle.definitions.specs.Findings.{findings, is_clean}
use Rattle.definitions.specs.Advance.{advance}
use Rattle.definitions.specs.Steps.{after_choice, after_got}
use Rattle.run_frame.specs.declared.statuses.Status.{Status}
use Rattle.run_frame.specs.declared.statuses.Status.TheVariants.{Done, InputFault, Caught, BadLine}
use Rattle.run_frame.specs.declared.statuses.TextName.TheVariants.{Script}
use Rattle.run_frame.specs.Frame.{Answer, after_text, answer_by, bare_answer}
use Rattle.line_io.specs.Inputs.{Input, Line, End, Fault, Ending, AtEnd, AtFault, lines_in}
use Rattle.drive_command.specs.declared.grammar.DriveLine.{DriveLine}
use Rattle.drive_command.specs.declared.grammar.DriveLine.TheVariants.{Nothing, Choose, Got, Bytes, Log, Score, Bad}
use Rattle.drive_command.specs.Grammar.{line_of, is_bad}
use Rattle.definitions.specs.declared.limits.TheConstants.{LONGEST_LINE}
use Rattle.definitions.specs.declared.limits.TheConstants.{MOST_LINES}
use Rattle.drive_command.specs.Driven.{State, fresh_state, last_reader, state_with_log}
use Rattle.drive_command.specs.Coming.{received_text, bytes_text, bytes_state, log_on}
use Rattle.report_lines.specs.Lines.{choice_text, found_text, added_text}
use Rattle.drive_command.specs.Report.{log_text, end_text}
use Rattle.report_lines.specs.Report.{own_score_text}

-- what the line says that comes behind n lines: a line longer than a line may be, and one behind the most lines that a
-- script has, is in no grammar
unfoldable pub said_behind : Game → ℕ → List ℕ → DriveLine
said_behind game n line = if nat_lt LONGEST_LINE (length line) || nat_le MOST_LINES n then Bad else line_of (last_reader game) line

-- what the peer has behind the line: a choice or a frame that is refused changes nothing, and behind one that is taken the peer
-- advances
unfoldable pub state_behind : Game → ℕ → State → DriveLine → State
state_behind game me s Nothing = s
state_behind game me s (Choose mv nonce) = state_with_log s (after_choice game me s.log mv nonce)
state_behind game me s (Got q f) = state_with_log s (after_got game me s.log q f)
state_behind game me s (Bytes q bytes) = bytes_state game me s q bytes
state_behind game me s Log = s
state_behind game me s Score = s
state_behind game me s Bad = s

-- what is written about the line: the answer to a choice or to what comes, and then each frame that the peer made by it; or the
-- log so far, or the own score
unfoldable pub text_behind : Game → ℕ → State → DriveLine → List ℕ
text_behind game me s Nothing = []
text_behind game me s (Choose mv nonce) =
    choice_text (length (chosen me s.log)) (choice_fault game me s.log mv) ++ added_text (length s.log) (after_choice game me s.log mv nonce)
text_behind game me s (Got q f) = received_text game me s.log q f
text_behind game me s (Bytes q bytes) = bytes_text game me s q bytes
text_behind game me s Log = log_text game me s.log
text_behind game me s Score = own_score_text game me s.log
text_behind game me s Bad = []

-- the answer from a log on: where it has a finding the run comes to its end, and otherwise it is this one
abbrev pub going_on : Game → ℕ → List Entry → Answer → Answer
going_on game me h rest = if is_clean game h then rest else record { body = end_text game me h; status = Caught }

-- the answer to this input, which comes behind n lines, where the peer has this, and its log no finding: what is written is told
-- of its lines, and at its end how the peer stands; a fault of the source ends the run where it comes
abbrev pub drive_from : Game → ℕ → State → ℕ → Input → Answer
drive_from game me s n End = record { body = end_text game me s.log; status = Done }
drive_from game me s n Fault = bare_answer InputFault
drive_from game me s n (Line line input) =
    answer_by (is_bad (said_behind game n line)) (n + 1) (text_behind game me s (said_behind game n line))
    (going_on game me (state_behind game me s (said_behind game n line)).log (drive_from game me (state_behind game me s (said_behind game n line)) (n + 1) input))

-- what is written before the first line: each frame that the peer makes, and the first finding of its log, if it has one
unfoldable pub start_text : Game → ℕ → List Entry → List ℕ
start_text game me first = added_text (length first) (advance game me first) ++ found_text (slice_get (findings game (advance game me first ∷ [])) 0)

-- The answer to a script from a log that a peer begins with: before the first line the peer advances.
unfoldable pub drive : Game → ℕ → List Entry → Input → Answer
drive game me first input =
    after_text (start_text game me first)
    (going_on game me (advance game me first) (drive_from game me (fresh_state (advance game me first)) 0 input))

-- the log, where the line lets the run go on
abbrev pub log_by : (bad : Bool) → (now last : List Entry) → List Entry
log_by bad now last = if bad then now else last

-- the log that the peer has behind these lines, or behind the first that ends its run
abbrev pub log_from : Game → ℕ → State → ℕ → List (List ℕ) → List Entry
log_from game me s n [] = s.log
log_from game me s n (line ∷ lines) =
    log_by (is_bad (said_behind game n line)) s.log
    (log_on game (state_behind game me s (said_behind game n line)).log (log_from game me (state_behind game me s (said_behind game n line)) (n + 1) lines))

-- the log that the peer has at the end of its run, after the answer `drive`
unfoldable pub drive_log : Game → ℕ → List Entry → Input → List Entry
drive_log game me first input = log_on game (advance game me first) (log_from game me (fresh_state (advance game me first)) 0 (lines_in input))

-- the number of the first of these lines, which come behind n lines, that is in no grammar, if there is one
abbrev pub bad_line : Game → ℕ → List (List ℕ) → Option ℕ
bad_line game n [] = None
bad_line game n (line ∷ lines) = if is_bad (said_behind game n line) then Some (n + 1) else bad_line game (n + 1) lines

-- how a run ends, by whether its last log has no finding, by the number of the first bad line of its script, and by what reading
-- it comes to
abbrev pub status_for : (clean : Bool) → (bad : Option ℕ) → Ending → Status
status_for false bad ending = Caught
status_for true (Some n) ending = BadLine Script n
status_for true None AtEnd = Done
status_for true None AtFault = InputFault
