-- Line outcomes: the answer from a line on, by what the line says.
use Rattle.std.proofs.Common.{Bool, List, [], ap, false, length, nat_lt, refl, sym, true, ℕ, ◌+◌, ◌++◌, ◌<◌, ◌∙◌, ◌∷◌, ◌≡◌}
use Rattle.std.specs.Prelude.{nat_le, not, ◌||◌, if◌then◌else◌}
use Rattle.std.proofs.lemmas.Bool.{lt-ltb}
use Rattle.definitions.specs.declared.world.Move.{Move}
use Rattle.definitions.specs.declared.openings.Nonce.{Nonce}
use Rattle.definitions.specs.declared.logs.Entry.{Entry}
use Rattle.definitions.specs.World.{Game}
use Rattle.definitions.specs.Logs.{chosen}
use Rattle.definitions.specs.Needs.{choice_fault}
use Rattle.definitions.specs.declared.frames.TurnFrame.{TurnFrame}
use Rattle.definitions.specs.Findings.{is_clean}
use Rattle.definitions.specs.Answers.{got_answer, place_of}
use Rattle.definitions.specs.Steps.{after_choice, after_got}
use Rattle.station.specs.Sinks.{SinkState, after_bytes}
use Rattle.run_frame.specs.Frame.{Answer, Ends, after_text, bare_answer, answer_by}
use Rattle.line_io.specs.Inputs.{Fault, Input, Line, lines_then}
use Rattle.line_io.specs.Lines.{StartsLonger}
use Rattle.run_frame.specs.declared.statuses.Status.{Status}
use Rattle.run_frame.specs.declared.statuses.Status.TheVariants.{BadLine, Caught, InputFault}
use Rattle.run_frame.specs.declared.statuses.TextName.TheVariants.{Script}
use Rattle.line_io.proofs.Writing.{bytes_none}
use Rattle.drive_command.specs.declared.grammar.DriveLine.{DriveLine}
use Rattle.drive_command.specs.declared.grammar.DriveLine.TheVariants.{Bad, Nothing, Choose, Got, Bytes, Log, Score}
use Rattle.drive_command.specs.Grammar.{is_bad, line_of}
use Rattle.definitions.specs.declared.limits.TheConstants.{LONGEST_LINE}
use Rattle.definitions.specs.declared.limits.TheConstants.{MOST_LINES}
use Rattle.drive_command.specs.Driven.{State, last_reader, state_with_log}
use Rattle.drive_command.specs.Coming.{received_text, bytes_text, bytes_state}
use Rattle.drive_command.specs.Drive.{drive_from, going_on, said_behind, state_behind, text_behind}
use Rattle.report_lines.specs.Lines.{added_text, choice_text, got_text}
use Rattle.drive_command.specs.Report.{end_text, log_text}
use Rattle.report_lines.specs.Report.{own_score_text}

-- the answer from a log on that has no finding, and from one that has
pub goes_on : (game : Game) (me : ℕ) (h : List Entry) (rest : Answer) → is_clean game h ≡ true → going_on game me h rest ≡ rest
goes_on game me h rest c = rw c refl

pub comes_to_end : (game : Game) (me : ℕ) (h : List Entry) (rest : Answer) → is_clean game h ≡ false → going_on game me h rest ≡ record { body = end_text game me h; status = Caught }
comes_to_end game me h rest c = rw c refl

-- the answer to an input that comes behind n lines, where the peer has this
abbrev pub answer_from : Game → ℕ → State → ℕ → Input → Answer
answer_from game me s n input = going_on game me s.log (drive_from game me s n input)

-- the answer from a line on that says this
from_said : (game : Game) (me : ℕ) (s : State) (n : ℕ) (line : List ℕ) (input : Input) (d : DriveLine) → is_clean game s.log ≡ true → d ≡ said_behind game n line →
    answer_from game me s n (Line line input) ≡ answer_by (is_bad d) (n + 1) (text_behind game me s d) (answer_from game me (state_behind game me s d) (n + 1) input)
from_said game me s n line input d c e =
    goes_on game me s.log (drive_from game me s n (Line line input)) c ∙
    ap (λ (d : DriveLine). answer_by (is_bad d) (n + 1) (text_behind game me s d) (answer_from game me (state_behind game me s d) (n + 1) input)) (sym e)

-- a line that is passed over
pub passed_over : (game : Game) (me : ℕ) (s : State) (n : ℕ) (line : List ℕ) (input : Input) → is_clean game s.log ≡ true → Nothing ≡ said_behind game n line →
    answer_from game me s n (Line line input) ≡ answer_from game me s (n + 1) input
unfolding text_behind state_behind
passed_over game me s n line input c e = from_said game me s n line input Nothing c e

-- a line that chooses
pub answered : (game : Game) (me : ℕ) (s : State) (n : ℕ) (line : List ℕ) (input : Input) (mv : Move) (nonce : Nonce) → is_clean game s.log ≡ true → Choose mv nonce ≡ said_behind game n line →
    answer_from game me s n (Line line input) ≡
    after_text (choice_text (length (chosen me s.log)) (choice_fault game me s.log mv) ++ added_text (length s.log) (after_choice game me s.log mv nonce))
    (answer_from game me (state_with_log s (after_choice game me s.log mv nonce)) (n + 1) input)
unfolding text_behind state_behind
answered game me s n line input mv nonce c e = from_said game me s n line input (Choose mv nonce) c e

-- a line that brings a frame
pub received : (game : Game) (me : ℕ) (s : State) (n : ℕ) (line : List ℕ) (input : Input) (q : ℕ) (f : TurnFrame) → is_clean game s.log ≡ true → Got q f ≡ said_behind game n line →
    answer_from game me s n (Line line input) ≡
    after_text (got_text q (place_of game f) (got_answer game me s.log q f) ++ added_text (length s.log) (after_got game me s.log q f))
    (answer_from game me (state_with_log s (after_got game me s.log q f)) (n + 1) input)
unfolding text_behind state_behind received_text
received game me s n line input q f c e = from_said game me s n line input (Got q f) c e

-- a line that brings bytes
pub brought : (game : Game) (me : ℕ) (s : State) (n : ℕ) (line : List ℕ) (input : Input) (q : ℕ) (bytes : List ℕ) → is_clean game s.log ≡ true → Bytes q bytes ≡ said_behind game n line →
    answer_from game me s n (Line line input) ≡ after_text (bytes_text game me s q bytes) (answer_from game me (bytes_state game me s q bytes) (n + 1) input)
unfolding text_behind state_behind
brought game me s n line input q bytes c e = from_said game me s n line input (Bytes q bytes) c e

-- a line that prints the log
pub printed : (game : Game) (me : ℕ) (s : State) (n : ℕ) (line : List ℕ) (input : Input) → is_clean game s.log ≡ true → Log ≡ said_behind game n line →
    answer_from game me s n (Line line input) ≡ after_text (log_text game me s.log) (answer_from game me s (n + 1) input)
unfolding text_behind state_behind
printed game me s n line input c e = from_said game me s n line input Log c e

-- a line that prints the own score
pub scored : (game : Game) (me : ℕ) (s : State) (n : ℕ) (line : List ℕ) (input : Input) → is_clean game s.log ≡ true → Score ≡ said_behind game n line →
    answer_from game me s n (Line line input) ≡ after_text (own_score_text game me s.log) (answer_from game me s (n + 1) input)
unfolding text_behind state_behind
scored game me s n line input c e = from_said game me s n line input Score c e

-- a line in no grammar
pub refused : (game : Game) (me : ℕ) (s : State) (n : ℕ) (line : List ℕ) (input : Input) → is_clean game s.log ≡ true → Bad ≡ said_behind game n line →
    answer_from game me s n (Line line input) ≡ bare_answer (BadLine Script (n + 1))
unfolding text_behind state_behind
refused game me s n line input c e = from_said game me s n line input Bad c e

-- a line that is too long
overlong : (game : Game) (n : ℕ) (line : List ℕ) → LONGEST_LINE < length line → said_behind game n line ≡ Bad
unfolding said_behind
overlong game n line l = go (nat_lt LONGEST_LINE (length line)) (lt-ltb LONGEST_LINE (length line) l)
  where
    go : (b : Bool) → b ≡ true → (if b || nat_le MOST_LINES n then Bad else line_of (last_reader game) line) ≡ Bad
    go true e = refl
    go false e = cc

pub too_long : (game : Game) (me : ℕ) (s : State) (n : ℕ) (lines : List (List ℕ)) (last : Input) → is_clean game s.log ≡ true → StartsLonger LONGEST_LINE lines →
    answer_from game me s n (lines_then lines last) ≡ bare_answer (BadLine Script (n + 1))
too_long game me s n [] last c l = absurd l
too_long game me s n (line ∷ lines) last c l = refused game me s n line (lines_then lines last) c (sym (overlong game n line l))

-- a status that is all that is due ends the run, and nothing is written
bare_ends : (a : SinkState) (p : Answer) (s : Status) → p ≡ bare_answer s → (a ≡ after_bytes a p.body) × (s ≡ p.status)
bare_ends a p s e = (sym (bytes_none a) ∙ ap (λ (r : Answer). after_bytes a r.body) (sym e), ap (λ (r : Answer). r.status) (sym e))

-- a line of no grammar ends the run
pub bad_ends : (a : SinkState) (p : Answer) (n : ℕ) → p ≡ bare_answer (BadLine Script n) → Ends a a p (BadLine Script n)
bad_ends a p n e = bare_ends a p (BadLine Script n) e

-- a fault of the source ends the run
pub fault_ends : (game : Game) (me : ℕ) (s : State) (n : ℕ) (a : SinkState) (input : Input) → is_clean game s.log ≡ true → input ≡ Fault →
    Ends a a (answer_from game me s n input) InputFault
fault_ends game me s n a input c e =
    bare_ends a (answer_from game me s n input) InputFault (ap (answer_from game me s n) e ∙ goes_on game me s.log (drive_from game me s n Fault) c)

-- a log has no finding where its peer tells of none, and has one where it tells of it
pub told_none : (b clean : Bool) → b ≡ not clean → b ≡ false → clean ≡ true
told_none b true e f = refl
told_none b false e f = cc

pub told_some : (b clean : Bool) → b ≡ not clean → b ≡ true → clean ≡ false
told_some b true e f = cc
told_some b false e f = refl
