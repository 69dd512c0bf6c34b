-- SealedJudge: the answer where sealed frames are judged, why a run ends as it does, and what is behind a verdict.
use Rattle.std.specs.Prelude.{◌≡◌, ◌⊎◌, ℕ, Bool, true, false, List, Result, Ok, Err, IsTrue}
use Rattle.sealed_evidence.specs.Judging.{are_sealed, shows_sealed}
use Rattle.sealed_evidence.specs.Transferable.{IsTransferable}
use Rattle.run_frame.specs.Frame.{Answer, bare_answer}
use Rattle.run_frame.specs.declared.statuses.Status.{Status}
use Rattle.run_frame.specs.declared.statuses.Status.TheVariants.{Caught, Done}
use Rattle.file_commands.specs.Judge.{verdict_answer}
use Rattle.file_commands.specs.JudgeLaws.{IsShownBy, SaysYes}
use Rattle.file_commands.specs.SealedCases.{SealedCase}

-- the frames show what the exhibit says, and each has a seal that is valid for it
abbrev pub is_shown_sealed : SealedCase → Bool
is_shown_sealed c = shows_sealed c.game c.roots c.sealed

-- the answer: the verdict, where there is something to judge
abbrev pub sealed_answer : Result SealedCase Status → Answer
sealed_answer (Err status) = bare_answer status
sealed_answer (Ok c) = verdict_answer (is_shown_sealed c)

-- the status tells the verdict
abbrev pub IsVerdict : Bool → Status → Type 0
IsVerdict shown Caught = IsTrue shown
IsVerdict shown Done = shown ≡ false
IsVerdict shown status = ⊥

-- why a run may end so: the files are refused by this status, or it tells the verdict
abbrev pub SealedCause : Result SealedCase Status → Status → Type 0
SealedCause due status = (due ≡ Err status) ⊎ ((c : SealedCase) × (due ≡ Ok c) × IsVerdict (is_shown_sealed c) status)

-- each frame has a seal that is valid under its player's root
abbrev pub AreSealed : SealedCase → Type 0
AreSealed c = IsTrue (are_sealed c.game c.roots c.sealed.exhibit.frames c.sealed.seals)

-- What is behind the text of a verdict.
pub record TellsSealedVerdict (c : SealedCase) (text : List ℕ) : Type 0 where
  -- it says yes only where the frames show what the exhibit says, without any log
  pub shows : SaysYes text → IsShownBy c.game c.sealed.exhibit
  -- and each has a valid seal
  pub sealed : SaysYes text → AreSealed c
  -- and wherever both is so
  pub told : IsShownBy c.game c.sealed.exhibit → AreSealed c → SaysYes text
  -- so where the player plays fair, whoever's log they stand in, they hold a secret that its seals never disclosed, or
  -- give two byte strings with one digest
  pub transferable : SaysYes text → IsTransferable c.game c.roots c.sealed
