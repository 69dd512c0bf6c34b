-- Begin: what a run begins with, and the answer from there on.
use Rattle.std.specs.Prelude.{◌≡◌, ℕ, false, List, ◌++◌, Option, Result, Ok, Err}
use Rattle.definitions.specs.declared.logs.Entry.{Entry}
use Rattle.definitions.specs.World.{Game}
use Rattle.definitions.specs.Advance.{advance}
use Rattle.definitions.specs.Findings.{is_clean}
use Rattle.line_io.specs.Inputs.{Input}
use Rattle.run_frame.specs.Frame.{Answer, after_text, bare_answer}
use Rattle.run_frame.specs.declared.statuses.Status.{Status}
use Rattle.report_lines.specs.Lines.{dropped_text}
use Rattle.old_log.specs.Beginnings.{Beginning}
use Rattle.drive_command.specs.Drive.{drive, drive_log}
use Rattle.definition_laws.specs.FairPlay.{IsFairPlay}
use Rattle.drive_command.specs.Telling.{TellsLog}

-- the log that the player's peer keeps, which begins so, behind this script
abbrev pub log_behind : (player : ℕ) → Beginning → Input → List Entry
log_behind player b input = drive_log b.game player b.first input

-- the answer to a script of the player's peer that begins so
abbrev pub begun_answer : (player : ℕ) → Beginning → Input → Answer
begun_answer player b input = after_text (dropped_text b.dropped) (drive b.game player b.first input)

-- the answer to the command: to the script, where there is something to begin with
abbrev pub drive_answer : (player : ℕ) → Result Beginning Status → Input → Answer
drive_answer player (Err status) input = bare_answer status
drive_answer player (Ok b) input = begun_answer player b input

-- There is nothing to begin with, or the log that the run begins with has a finding once the peer advanced.
abbrev pub NeedsNoInput : (player : ℕ) → Result Beginning Status → Type 0
NeedsNoInput player (Err status) = Unit {0}
NeedsNoInput player (Ok b) = is_clean b.game (advance b.game player b.first) ≡ false

-- The body of an answer tells from which byte on the log is dropped that the run begins with, if it is, and then how this log
-- came from its entries.
pub record TellsRun (player : ℕ) (b : Beginning) (log : List Entry) (body : List ℕ) : Type 0 where
  pub told : List ℕ
  pub body_is : body ≡ dropped_text b.dropped ++ told
  pub tells : TellsLog b.game player b.first log told

-- What is behind an answer with this body.
pub record TellsPlay (player : ℕ) (b : Beginning) (input : Input) (body : List ℕ) : Type 0 where
  -- it tells a log, from the one on that the run begins with
  pub tells : TellsRun player b (log_behind player b input) body
  -- that log is one of fair play
  pub fair : IsFairPlay b.game player (log_behind player b input)
