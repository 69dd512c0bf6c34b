-- Schedule: what the lines of a schedule do to the players' logs, and what is written about them.
use Rattle.std.specs.Prelude.{ℕ, ◌+◌, Bool, true, false, ◌||◌, List, [], ◌∷◌, ◌++◌, Option, Some, None, length, nat_lt, nat_le, replicate, if◌then◌else◌}
use Rattle.definitions.specs.declared.limits.TheConstants.{LONGEST_LINE, MOST_LINES}
use Rattle.definitions.specs.declared.logs.Entry.{Entry}
use Rattle.definitions.specs.Lists.{item_or}
use Rattle.definitions.specs.World.{Game, players_of}
use Rattle.definitions.specs.Steps.{after, has_log, log_of}
use Rattle.line_io.specs.Inputs.{Input, Line, End, Fault}
use Rattle.report_lines.specs.Lines.{end_line_text}
use Rattle.run_frame.specs.Frame.{Answer, answer_by, bare_answer}
use Rattle.run_frame.specs.declared.statuses.Status.{Status}
use Rattle.run_frame.specs.declared.statuses.Status.TheVariants.{Done, InputFault, Caught, BadLine}
use Rattle.run_frame.specs.declared.statuses.TextName.TheVariants.{Script}
use Rattle.schedule.specs.declared.steps.Step.{Step}
use Rattle.schedule.specs.declared.steps.Step.TheVariants.{Choose, Deliver, Hostile, Stop}
use Rattle.schedule.specs.declared.steps.StepAnswer.{StepAnswer}
use Rattle.schedule.specs.declared.steps.StepAnswer.TheVariants as A
use Rattle.schedule.specs.declared.stands.Stand.{Stand}
use Rattle.schedule.specs.declared.stands.Stand.TheVariants as S
use Rattle.schedule.specs.Stands.{stand}
use Rattle.schedule.specs.Steps.{answer, first_logs, meant, mover}
use Rattle.schedule.specs.Tables.{TableState}
use Rattle.schedule.specs.Tallies.{no_tally, tallied}
use Rattle.schedule_command.specs.declared.grammar.ScheduleLine.{ScheduleLine}
use Rattle.schedule_command.specs.declared.grammar.ScheduleLine.TheVariants as says
use Rattle.schedule_command.specs.declared.opening.Naming.{Naming}
use Rattle.schedule_command.specs.declared.opening.Naming.TheVariants.{Passed, Names, Unknown}
use Rattle.schedule_command.specs.Grammar.{is_bad, is_passed_over, line_of}
use Rattle.schedule_command.specs.Hostile.{hostile_of}
use Rattle.schedule_command.specs.Lines.{made_lines, stand_line, step_line, tally_line}

-- the line, which comes behind n lines, is longer than a line may be, or one too many
abbrev pub is_too_much : (n : ℕ) → List ℕ → Bool
is_too_much n line = nat_lt LONGEST_LINE (length line) || nat_le MOST_LINES n

-- what the line says that comes behind n lines, one of which named the hostile players
unfoldable pub said_behind : Game → ℕ → List ℕ → ScheduleLine
said_behind game n line = if is_too_much n line then says.Bad else line_of game line

-- the table after the step
unfoldable pub table_after : TableState → Step → TableState
table_after t step = record {
  game = t.game;
  logs = after t.game t.logs (meant step);
  tallies = tallied t.tallies (mover step) (answer t.game t.logs step);
}

-- the table behind the line
abbrev pub table_behind : TableState → ScheduleLine → TableState
table_behind t says.Nothing = t
table_behind t (says.Step step) = table_after t step
table_behind t (says.Tally p) = t
table_behind t says.Bad = t

-- how many entries a log has, if there is one
abbrev pub entries_of : Option (List Entry) → ℕ
entries_of None = 0
entries_of (Some h) = length h

-- how many entries a log keeps in a stop, by what came of it
abbrev pub kept_at : (keep : ℕ) → StepAnswer → (entries : ℕ) → ℕ
kept_at keep A.Stopped entries = keep
kept_at keep said entries = entries

-- how many of a log's entries the step leaves, by what came of it
abbrev pub kept : Step → StepAnswer → (entries : ℕ) → ℕ
kept (Choose p mv nonce) said entries = entries
kept (Deliver q p place) said entries = entries
kept (Hostile q p f) said entries = entries
kept (Stop p keep) said entries = kept_at keep said entries

-- what is written about the step: what came of it, and then each frame that the peer made in it
unfoldable pub step_text : TableState → Step → List ℕ
step_text t step =
    let said = answer t.game t.logs step in
    step_line t.game step said ++ made_lines (mover step) (kept step said (entries_of (log_of t.logs (mover step)))) (log_of (table_after t step).logs (mover step))

-- what is written where a player's tally is asked for
unfoldable pub tally_text : TableState → (p : ℕ) → List ℕ
tally_text t p = if has_log t.logs p then tally_line p (item_or t.tallies p no_tally) else step_line t.game (Stop p 0) A.NotHonest

-- what is written about the line
abbrev pub text_behind : TableState → ScheduleLine → List ℕ
text_behind t says.Nothing = []
text_behind t (says.Step step) = step_text t step
text_behind t (says.Tally p) = tally_text t p
text_behind t says.Bad = []

-- what is written at the end: how the match stands, and that this is the end
unfoldable pub end_text : Stand → List ℕ
end_text s = stand_line s ++ end_line_text

-- how a run ends that came to its end: whether an honest player's log has a finding
abbrev pub status_of : Stand → Status
status_of (S.Caught p) = Caught
status_of (S.Moving p) = Done
status_of (S.Behind p q place) = Done
status_of (S.Held q) = Done
status_of S.Finished = Done

-- the answer at the end, where the match stands so
abbrev pub end_answer : Stand → Answer
end_answer s = record { body = end_text s; status = status_of s }

-- the answer to this input, which comes behind n lines, where the table is this one: a fault of the source ends the run where it comes
abbrev pub schedule_from : TableState → ℕ → Input → Answer
schedule_from t n End = end_answer (stand t.game t.logs)
schedule_from t n Fault = bare_answer InputFault
schedule_from t n (Line line input) =
    answer_by (is_bad (said_behind t.game n line)) (n + 1) (text_behind t (said_behind t.game n line))
    (schedule_from (table_behind t (said_behind t.game n line)) (n + 1) input)

-- the table with which the match begins
abbrev pub first_table : Game → (hostile : ℕ) → TableState
first_table game hostile = record { game = game; logs = first_logs game hostile; tallies = replicate (players_of game) no_tally }

-- the players of a reading, or nothing of the grammar
abbrev pub naming_by : Option ℕ → Naming
naming_by None = Unknown
naming_by (Some hostile) = Names hostile

-- what the line says that comes behind n lines, all of which were passed over
unfoldable pub naming_behind : Game → ℕ → List ℕ → Naming
naming_behind game n line = if is_too_much n line then Unknown else if is_passed_over line then Passed else naming_by (hostile_of game line)

-- the answer from such a line on, which is the n-th, and behind which this input comes
abbrev pub named_answer : Game → Naming → (n : ℕ) → (passed : Answer) → Input → Answer
named_answer game Passed n passed input = passed
named_answer game (Names hostile) n passed input = schedule_from (first_table game hostile) n input
named_answer game Unknown n passed input = bare_answer (BadLine Script n)

-- the answer to this input, which comes behind n lines that were passed over: where no line names the hostile players, the one behind
-- the last is the bad one
abbrev pub opened_from : Game → ℕ → Input → Answer
opened_from game n End = bare_answer (BadLine Script (n + 1))
opened_from game n Fault = bare_answer InputFault
opened_from game n (Line line input) = named_answer game (naming_behind game n line) (n + 1) (opened_from game (n + 1) input) input

-- The answer to the command in this session.
abbrev pub schedule_answer : Game → Input → Answer
schedule_answer game input = opened_from game 0 input
