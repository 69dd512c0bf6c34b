-- Causes: why a run over a session ends as it does, status by status, and what is behind its answer.
use Rattle.std.specs.Prelude.{◌≡◌, ℕ, true, false, List, Option, Some, None, Result, Ok, Err, IsTrue}
use Rattle.definitions.specs.declared.logs.Entry.{Entry}
use Rattle.definitions.specs.World.{Game}
use Rattle.definitions.specs.Findings.{is_clean}
use Rattle.definitions.specs.Steps.{Logs, log_of}
use Rattle.line_io.specs.Inputs.{AtEnd, Input, ending_of, lines_in}
use Rattle.run_frame.specs.Frame.{Answer, bare_answer}
use Rattle.run_frame.specs.declared.statuses.Status.{Status}
use Rattle.run_frame.specs.declared.statuses.Status.TheVariants.{Done, NoMemory, InputFault, OutputFault, Caught, BadLine}
use Rattle.run_frame.specs.declared.statuses.TextName.TheVariants.{Script}
use Rattle.schedule.specs.Theorem.{HoldsOfAll}
use Rattle.schedule_command.specs.Matches.{EndsWith, bad_line, logs_behind, stand_behind}
use Rattle.schedule_command.specs.Played.{OnEnd}
use Rattle.schedule_command.specs.Schedule.{end_text, schedule_answer}

-- the answer to the command: to the lines, where there is a session
abbrev pub answer_in : Result Game Status → Input → Answer
answer_in (Err status) input = bare_answer status
answer_in (Ok game) input = schedule_answer game input

-- There is no session, and nothing is due by the lines.
abbrev pub NeedsNoInput : Result Game Status → Type 0
NeedsNoInput (Err status) = Unit {0}
NeedsNoInput (Ok game) = ⊥

-- no honest player's log has a finding
abbrev pub AreClean : Game → Logs → Type 0
AreClean game logs = (p : ℕ) (h : List Entry) → log_of logs p ≡ Some h → IsTrue (is_clean game h)

-- the log of an honest player has a finding
pub record IsCaught (game : Game) (logs : Logs) : Type 0 where
  pub player : ℕ
  pub log : List Entry
  pub log_is : log_of logs player ≡ Some log
  pub found : is_clean game log ≡ false

-- All lines are of the grammar, and the logs behind them are of this kind.
pub record IsPlayedOut (game : Game) (input : Input) (Are : Game → Logs → Type 0) : Type 0 where
  pub lines : bad_line game (lines_in input) ≡ None
  pub logs : Are game (logs_behind game (lines_in input))

-- Why a run over a session may end so: at the end of the lines, by the logs of the honest players; or at a line that is in no grammar. Want of
-- memory and faults have their causes outside.
abbrev pub ScheduleCause : Game → Input → Status → Type 0
ScheduleCause game input Done = IsPlayedOut game input AreClean
ScheduleCause game input Caught = IsPlayedOut game input IsCaught
ScheduleCause game input (BadLine Script n) = bad_line game (lines_in input) ≡ Some n
ScheduleCause game input NoMemory = Unit {0}
ScheduleCause game input InputFault = Unit {0}
ScheduleCause game input OutputFault = Unit {0}
ScheduleCause game input status = ⊥

-- What is behind an answer to the lines of an input.
pub record TellsMatch (game : Game) (input : Input) (answer : Answer) : Type 0 where
  -- behind the lines' steps stand logs of which all holds that holds in any interleaving
  pub holds : HoldsOfAll game (logs_behind game (lines_in input))
  -- at the command's end the text ends with how the match of these logs stands
  pub ends : ending_of input ≡ AtEnd → OnEnd answer.status (EndsWith answer.body (end_text (stand_behind game (lines_in input))))
