-- Causes: why a run that began ends as it does, status by status.
use Rattle.std.specs.Prelude.{◌≡◌, ℕ, false, Option, Some, None, IsTrue}
use Rattle.definitions.specs.Findings.{is_clean}
use Rattle.line_io.specs.Inputs.{Input, lines_in}
use Rattle.run_frame.specs.declared.statuses.Status.{Status}
use Rattle.run_frame.specs.declared.statuses.Status.TheVariants.{Done, NoMemory, InputFault, OutputFault, Caught, BadLine}
use Rattle.run_frame.specs.declared.statuses.TextName.TheVariants.{Script}
use Rattle.old_log.specs.Beginnings.{Beginning}
use Rattle.drive_command.specs.Begin.{log_behind}
use Rattle.drive_command.specs.Drive.{bad_line}

-- The script is played to its end without a finding, and this is the number of its first bad line, if there is one.
pub record IsPlayed (player : ℕ) (b : Beginning) (input : Input) (bad : Option ℕ) : Type 0 where
  pub clean : IsTrue (is_clean b.game (log_behind player b input))
  pub lines : bad_line b.game 0 (lines_in input) ≡ bad

-- Why a run that began so may end so behind this script: at the end of the command or at a bad line, as the log has no finding;
-- or because it has one. Want of memory and faults have their causes outside.
abbrev pub DriveCause : (player : ℕ) → Beginning → Input → Status → Type 0
DriveCause player b input Done = IsPlayed player b input None
DriveCause player b input (BadLine Script n) = IsPlayed player b input (Some n)
DriveCause player b input Caught = is_clean b.game (log_behind player b input) ≡ false
DriveCause player b input NoMemory = Unit {0}
DriveCause player b input InputFault = Unit {0}
DriveCause player b input OutputFault = Unit {0}
DriveCause player b input status = ⊥
