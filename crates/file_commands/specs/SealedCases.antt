-- SealedCases: a session, an exhibit with seals, and the roots by which it is judged, read from their files one after
-- the other, or how a run ends where there is nothing to judge.
use Rattle.std.specs.Prelude.{◌≡◌, ℕ, zero, suc, List, [], ◌∷◌, Option, Result, Ok, Err}
use Rattle.definitions.specs.World.{Game, players_of}
use Rattle.station.specs.Shelves.{ShelfState}
use Rattle.line_io.specs.Files.{Contents, behind_first, content}
use Rattle.roots.specs.declared.limits.TheConstants.{ROOTS_FRONT}
use Rattle.roots.specs.Reading.{roots_at}
use Rattle.sealed_evidence.specs.declared.sealed.SealedExhibit.{SealedExhibit}
use Rattle.sealed_text.specs.declared.limits.TheConstants.{SEALED_FRONT}
use Rattle.sealed_text.specs.Reading.{sealed_at}
use Rattle.run_frame.specs.Faults.{read_by}
use Rattle.run_frame.specs.Opening.{Found, IsDueFor, Reads, front_in}
use Rattle.run_frame.specs.Sessions.{is_shelf_fault, session_in}
use Rattle.run_frame.specs.declared.statuses.Status.{Status}
use Rattle.run_frame.specs.declared.statuses.TextName.TheVariants.{Evidence, Roots}
use Rattle.file_commands.specs.declared.sealed_cases.SealedCase.{SealedCase as SealedCaseHeld}
use Rattle.file_commands.specs.SealedWords.{SealedJudging}

-- what is judged, and by what
pub record SealedCase : Type 0 where
  pub game : Game
  pub sealed : SealedExhibit
  pub roots : List (List ℕ)

-- the same as the code holds it
abbrev pub case_held : SealedCaseHeld → SealedCase
case_held c = record { game = c.session; sealed = c.sealed; roots = c.roots }

abbrev pub case_read : Result SealedCaseHeld Status → Result SealedCase Status
case_read (Ok c) = Ok (case_held c)
case_read (Err status) = Err status

-- the exhibit with seals of a file
abbrev pub sealed_in : Game → Option (List ℕ) → Result SealedExhibit Status
sealed_in game content = read_by Evidence (sealed_at game (front_in SEALED_FRONT content))

-- the roots of a file, one for each player
abbrev pub roots_in : Game → Option (List ℕ) → Result (List (List ℕ)) Status
roots_in game content = read_by Roots (roots_at (players_of game) (front_in ROOTS_FRONT content))

-- what is judged, where there are roots
abbrev pub with_roots : Game → SealedExhibit → Result (List (List ℕ)) Status → Result SealedCase Status
with_roots game x (Err status) = Err status
with_roots game x (Ok roots) = Ok (record { game = game; sealed = x; roots = roots })

-- the same, where there is an exhibit; the roots' file is the first of these
abbrev pub after_evidence : Game → Result SealedExhibit Status → Contents → Result SealedCase Status
after_evidence game (Err status) contents = Err status
after_evidence game (Ok x) contents = with_roots game x (roots_in game (content contents 0))

-- the same, by the files after the session's
abbrev pub evidence_then : Game → Contents → Result SealedCase Status
evidence_then game contents = after_evidence game (sealed_in game (content contents 0)) (behind_first contents)

-- the same, where there is a session
abbrev pub after_session : Result Game Status → Contents → Result SealedCase Status
after_session (Err status) contents = Err status
after_session (Ok game) contents = evidence_then game contents

-- what is judged, by the files: the session is asked first, then the exhibit, and then the roots
abbrev pub sealed_case_for : Contents → Result SealedCase Status
sealed_case_for contents = after_session (session_in (content contents 0)) (behind_first contents)

-- ---- when a file is read: only where those before it have what is asked of them

abbrev pub MayReadRoots : Game → Contents → ℕ → Type 0
MayReadRoots game contents zero = Unit {0}
MayReadRoots game contents (suc n) = Found (sealed_in game (content contents 0))

abbrev pub MayReadEach : Contents → ℕ → Type 0
MayReadEach contents zero = Unit {0}
MayReadEach contents (suc n) = (game : Game) × (session_in (content contents 0) ≡ Ok game) × MayReadRoots game (behind_first contents) n

-- ---- what was opened is what is due

-- The exhibit was read, and then the roots.
abbrev pub ReadsAfterSession : SealedJudging → Game → (before after : ShelfState) → Result SealedCase Status → Type 0
ReadsAfterSession j game before after case =
    Reads before after (j.evidence ∷ j.roots ∷ []) (is_shelf_fault case) (MayReadRoots game) (λ contents. IsDueFor (evidence_then game contents) case)

-- The session was read, and then the exhibit and the roots.
abbrev pub OpensSealedCase : SealedJudging → (before after : ShelfState) → Result SealedCase Status → Type 0
OpensSealedCase j before after case =
    Reads before after (j.session ∷ j.evidence ∷ j.roots ∷ []) (is_shelf_fault case) MayReadEach (λ contents. IsDueFor (sealed_case_for contents) case)
