-- Answers: what an answer to a frame says of the log, and how far a peer came.
use Rattle.std.specs.Prelude.{ℕ, Bool, true, false, [], Option, Some, None}
use Rattle.definitions.specs.declared.findings.Finding.{Finding}
use Rattle.definitions.specs.declared.answers.Progress.{Progress}
use Rattle.definitions.specs.declared.answers.Progress.TheVariants.{Caught}
use Rattle.definitions.specs.declared.answers.GotAnswer.{GotAnswer}
use Rattle.definitions.specs.declared.answers.GotAnswer.TheVariants as GA
use Rattle.definitions.specs.Advance.{progress_of}

-- how far the peer came, by the first finding of its log, if there is one
abbrev pub progress_by : Option Finding → ℕ → Progress → Progress
progress_by (Some f) n stands = Caught f
progress_by None n stands = progress_of [] n stands

-- the finding of which an answer tells, if it does
abbrev pub caught_in : GotAnswer → Option Finding
caught_in (GA.Caught f) = Some f
caught_in GA.Taken = None
caught_in GA.Stashed = None
caught_in GA.Same = None
caught_in GA.Far = None
caught_in GA.Foreign = None
caught_in GA.Closed = None

-- the frame that is answered so is in the log
abbrev pub is_logged : GotAnswer → Bool
is_logged GA.Taken = true
is_logged GA.Stashed = true
is_logged GA.Same = false
is_logged GA.Far = false
is_logged GA.Foreign = false
is_logged (GA.Caught f) = true
is_logged GA.Closed = false
