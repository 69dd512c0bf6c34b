-- Commanded: the command's answer has its cause, and tells a log of fair play.
use Rattle.std.proofs.Common.{Bool, None, Option, Some, ap, false, refl, subst, sym, true, ℕ, ◌≡◌, ◌∙◌, ◌≤◌}
use Rattle.definitions.specs.Findings.{is_clean}
use Rattle.definitions.specs.Honest.{IsHonest}
use Rattle.line_io.specs.Inputs.{AtEnd, Input, ending_of, lines_in}
use Rattle.run_frame.specs.declared.statuses.Status.{Status}
use Rattle.run_frame.specs.declared.statuses.Status.TheVariants.{Done}
use Rattle.old_log.specs.Beginnings.{Beginning}
use Rattle.drive_command.specs.Begin.{TellsPlay, begun_answer, log_behind}
use Rattle.drive_command.specs.Causes.{DriveCause, IsPlayed}
use Rattle.drive_command.specs.Drive.{bad_line, drive, status_for}
use Rattle.drive_command.proofs.Ends.{drive_status}
use Rattle.drive_command.proofs.Fair.{drive_fair}
use Rattle.drive_command.proofs.Tellings.{drive_tells}

-- A run that began, over a script that is read to its end.
module _ (player : ℕ) (b : Beginning) (input : Input) (ends : ending_of input ≡ AtEnd) where
  status_is : (begun_answer player b input).status ≡ status_for (is_clean b.game (log_behind player b input)) (bad_line b.game 0 (lines_in input)) AtEnd
  status_is = drive_status b.game player b.first input ∙ ap (status_for (is_clean b.game (log_behind player b input)) (bad_line b.game 0 (lines_in input))) ends

  by_log : (clean : Bool) → is_clean b.game (log_behind player b input) ≡ clean → (bad : Option ℕ) → bad_line b.game 0 (lines_in input) ≡ bad → DriveCause player b input (status_for clean bad AtEnd)
  by_log false e bad l = e
  by_log true e None l = record { clean = e; lines = l }
  by_log true e (Some n) l = record { clean = e; lines = l }

  -- the status that is due has its cause
  pub drive_caused : DriveCause player b input (begun_answer player b input).status
  drive_caused = subst (λ (s : Status). DriveCause player b input s) (sym status_is) (by_log (is_clean b.game (log_behind player b input)) refl (bad_line b.game 0 (lines_in input)) refl)

  -- where all is good, the end of the command is due
  pub drive_done : IsPlayed player b input None → (begun_answer player b input).status ≡ Done
  drive_done p = status_is ∙ ap (λ (c : Bool). status_for c (bad_line b.game 0 (lines_in input)) AtEnd) p.clean ∙ ap (λ (o : Option ℕ). status_for true o AtEnd) p.lines

-- the answer tells a log of fair play, where the log that the run begins with is honest
pub drive_tells_play : (player : ℕ) (b : Beginning) (input : Input) → 1 ≤ b.game.ahead → IsHonest b.game player b.first → TellsPlay player b input (begun_answer player b input).body
drive_tells_play player b input ahead honest = record {
  tells = record { told = (drive b.game player b.first input).body; body_is = refl; tells = drive_tells b.game player b.first input };
  fair = drive_fair b.game player b.first input ahead honest;
}
