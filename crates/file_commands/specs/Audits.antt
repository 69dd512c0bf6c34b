-- Audits: the logs that are audited, by the files of a session and of the logs, or that one of them is none. A file that
-- isn't there counts as one without bytes here; reading it is a fault of the shelf, which is answered where the file is read.
use Rattle.std.specs.Prelude.{◌≡◌, ◌⊎◌, ℕ, zero, suc, List, [], ◌∷◌, Result, Ok, Err, Some, None, length}
use Rattle.definitions.specs.Lists.{item_or}
use Rattle.definitions.specs.World.{Game}
use Rattle.station.specs.Outside.{faults_behind}
use Rattle.station.specs.Shelves.{ShelfState}
use Rattle.line_io.specs.Files.{AreContents, Calls, Contents, ReadsFiles, content, behind_first}
use Rattle.grid_world.specs.Reading.{game_at}
use Rattle.session_log.specs.Laws.{AreBytes}
use Rattle.session_log.specs.Reading.{fault_at}
use Rattle.auditor.specs.Audits.{AuditState, StandsFor}
use Rattle.log_files.specs.Several.{first_bytes, first_fault, logs_in, of_log, owners_in}
use Rattle.run_frame.specs.declared.statuses.Status.{Status}
use Rattle.run_frame.specs.declared.statuses.Status.TheVariants.{NoMemory, InputFault, BadLog, BadSession}
use Rattle.file_commands.specs.declared.audits.Audited.{Audited}
use Rattle.run_frame.specs.Sessions.{front_of, is_shelf_fault, session_in}

-- There is a session, and the files of so many logs before are logs of it.
pub record IsSoundBefore (contents : Contents) (many : ℕ) : Type 0 where
  pub game : Game
  pub read : game_at (front_of (content contents 0)) ≡ Ok game
  pub sound : first_fault game (behind_first contents) 0 many ≡ None

-- The file of a log is read only where there is a session, and those of the logs before are logs of it.
abbrev pub AreLogsDue : Calls → Type 0
AreLogsDue calls = (contents : Contents) → AreContents contents calls → (many : ℕ) → (item_or calls (suc many) [] ≡ []) ⊎ IsSoundBefore contents many

-- the bytes of each of so many files are bytes
abbrev pub AreFiles : Contents → (many : ℕ) → Type 0
AreFiles files zero = Unit {0}
AreFiles files (suc many) = AreBytes (first_bytes files) × AreFiles (behind_first files) many

-- The auditor took the logs of these files, or how the run ends where it didn't: at the first that is no log, unless memory was wanting or
-- the shelf failed.
abbrev pub IsTakenFor : Game → (files : Contents) → (many : ℕ) → Result AuditState Status → Type 0
IsTakenFor game files many (Ok a) = (first_fault game files 0 many ≡ None) × StandsFor game (owners_in game files many) (logs_in game files many) a
IsTakenFor game files many (Err NoMemory) = Unit {0}
IsTakenFor game files many (Err InputFault) = Unit {0}
IsTakenFor game files many (Err (BadLog log at why)) = first_fault game files 0 many ≡ Some (of_log log (fault_at at why))
IsTakenFor game files many (Err status) = ⊥

-- The logs of a session were taken, each from its file, and none behind one that is no log.
pub record TakesAll (game : Game) (before after : ShelfState) (names : List (List ℕ)) (taken : Result AuditState Status) : Type 0 where
  pub calls : Calls
  pub reads : ReadsFiles names before after calls
  pub counted : after.faults ≡ faults_behind (is_shelf_fault taken) before.faults
  pub due : (files : Contents) → AreContents files calls → (i : ℕ) → (item_or calls i [] ≡ []) ⊎ (first_fault game files 0 i ≡ None)
  pub answer : (files : Contents) → AreContents files calls → IsTakenFor game files (length names) taken

-- An auditor that took the logs of a session stands for what the files hold.
pub record IsAuditFor (due : Result Game Status) (files : Contents) (many : ℕ) (a : Audited) : Type 0 where
  pub read : due ≡ Ok a.session
  pub sound : first_fault a.session files 0 many ≡ None
  pub stands : StandsFor a.session (owners_in a.session files many) (logs_in a.session files many) a.auditor

-- No log is what is taken, for the reason that is due, unless memory was wanting or the shelf failed.
abbrev pub IsAuditDue : Result Game Status → (files : Contents) → (many : ℕ) → Result Audited Status → Type 0
IsAuditDue due files many (Ok a) = IsAuditFor due files many a
IsAuditDue due files many (Err NoMemory) = Unit {0}
IsAuditDue due files many (Err InputFault) = Unit {0}
IsAuditDue due files many (Err (BadSession line what)) = due ≡ Err (BadSession line what)
IsAuditDue due files many (Err (BadLog log at why)) = (game : Game) × (due ≡ Ok game) × (first_fault game files 0 many ≡ Some (of_log log (fault_at at why)))
IsAuditDue due files many (Err status) = ⊥

-- The session was read, and then the logs, each from its file.
pub record OpensAudit (before after : ShelfState) (session : List ℕ) (logs : List (List ℕ)) (audit : Result Audited Status) : Type 0 where
  pub calls : Calls
  pub reads : ReadsFiles (session ∷ logs) before after calls
  pub logs_due : AreLogsDue calls
  pub counted : after.faults ≡ faults_behind (is_shelf_fault audit) before.faults
  pub due : (contents : Contents) → AreContents contents calls → IsAuditDue (session_in (content contents 0)) (behind_first contents) (length logs) audit
