-- Due: what was opened is what is due by the files.
use Rattle.std.specs.Prelude.{◌≡◌, ℕ, List, ◌∷◌, length, Result, Ok, Err}
use Rattle.definitions.specs.World.{Game}
use Rattle.station.specs.Shelves.{ShelfState}
use Rattle.accuser.specs.Accused.{Accuses}
use Rattle.accuser.specs.Opened.{bytes_of}
use Rattle.accuser.specs.declared.opened.FilesFault.{FilesFault}
use Rattle.accuser.specs.declared.opened.FilesFault.TheVariants as fault
use Rattle.accuser.specs.SealedReports.{SealedReported}
use Rattle.run_frame.specs.Opening.{IsRefusedBy, Reads}
use Rattle.run_frame.specs.Sessions.{is_shelf_fault}
use Rattle.run_frame.specs.declared.statuses.Status.{Status}
use Rattle.run_frame.specs.declared.statuses.Status.TheVariants.{BadSeal, InputFault, NoMemory}
use Rattle.accuse_command.specs.declared.opening.Accusation.{Accusation as AccusationHeld}
use Rattle.accuse_command.specs.AccuseWords.{Accusing}
use Rattle.accuse_command.specs.Opened.{Accusation, MayReadEach, MayReadRoots, MayReadSealed, accusation_for, roots_then, with_files}

-- the status that tells of a fault of the files of sealed frames
abbrev pub status_of_files : FilesFault → Status
status_of_files (fault.BadSeal file at) = BadSeal file at
status_of_files fault.Failed = InputFault
status_of_files fault.Memory = NoMemory

-- The report accuses by these files, or none does, as is due.
abbrev pub IsReportDue : Game → (roots files : List (List ℕ)) → Result SealedReported Status → Type 0
IsReportDue game roots files (Ok r) = Accuses game roots files r
IsReportDue game roots files (Err status) = IsRefusedBy (with_files game roots files) status

-- The files of sealed frames were read.
abbrev pub ReadsReport : Game → List (List ℕ) → (before after : ShelfState) → (names : List (List ℕ)) → Result SealedReported Status → Type 0
ReadsReport game roots before after names report =
    Reads before after names (is_shelf_fault report) (MayReadSealed game roots) (λ contents. IsReportDue game roots (bytes_of contents (length names)) report)

-- This accuses, and its report by what the files hold.
pub record IsAccused (due : Result Accusation Status) (a : AccusationHeld) : Type 0 where
  pub files : List (List ℕ)
  pub due_is : due ≡ Ok (record { game = a.session; roots = a.roots; files = files })
  pub accuses : Accuses a.session a.roots files a.report

abbrev pub IsAccusedDue : Result Accusation Status → Result AccusationHeld Status → Type 0
IsAccusedDue due (Ok a) = IsAccused due a
IsAccusedDue due (Err status) = IsRefusedBy due status

-- The roots were read, and then the files of sealed frames.
abbrev pub ReadsAfterSession : Accusing → Game → (before after : ShelfState) → Result AccusationHeld Status → Type 0
ReadsAfterSession a game before after held =
    Reads before after (a.roots ∷ a.files) (is_shelf_fault held) (MayReadRoots game) (λ contents. IsAccusedDue (roots_then game contents (length a.files)) held)

-- The session was read, and then the roots and the files of sealed frames.
abbrev pub OpensAccusation : Accusing → (before after : ShelfState) → Result AccusationHeld Status → Type 0
OpensAccusation a before after held =
    Reads before after (a.session ∷ a.roots ∷ a.files) (is_shelf_fault held) MayReadEach (λ contents. IsAccusedDue (accusation_for contents (length a.files)) held)
