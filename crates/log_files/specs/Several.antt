-- Several: several logs, each from its file, in their order.
use Rattle.std.specs.Prelude.{◌≡◌, ◌⊎◌, ℕ, zero, suc, ◌+◌, Bool, true, false, List, [], ◌∷◌, ◌++◌, Option, None, Some, length, option_map, unwrap_or}
use Rattle.std.specs.Option.{option_or}
use Rattle.definitions.specs.declared.logs.Entry.{Entry}
use Rattle.definitions.specs.Lists.{item_or}
use Rattle.definitions.specs.World.{Game}
use Rattle.station.specs.Outside.{faults_behind}
use Rattle.station.specs.Shelves.{ShelfState}
use Rattle.line_io.specs.Files.{AreContents, Calls, Contents, ReadsFiles, behind_first}
use Rattle.session_log.specs.declared.faults.LogFault.{LogFault}
use Rattle.session_log.specs.Laws as L
use Rattle.log_streams.specs.Streams.{entries_in}
use Rattle.auditor.specs.Audits.{AuditState, StandsFor}
use Rattle.log_files.specs.Logs.{log_fault}
use Rattle.log_files.specs.declared.faults.FileFault.{FileFault}
use Rattle.log_files.specs.declared.faults.FileFault.TheVariants as file
use Rattle.log_files.specs.declared.several.LogsTaken.{LogsTaken}
use Rattle.log_files.specs.declared.several.LogsTaken.TheVariants.{Whole, Bad, Failed, Memory}

-- the bytes of the first of these files; one that isn't there counts as one without bytes
abbrev pub first_bytes : Contents → List ℕ
first_bytes [] = []
first_bytes (content ∷ files) = unwrap_or content []

-- a log that can't be used: its number, and its first fault
pub record FaultyLog : Type 0 where
  pub log : ℕ
  pub fault : LogFault

-- the fault as one of the log of this number
abbrev pub of_log : ℕ → LogFault → FaultyLog
of_log number fault = record { log = number; fault = fault }

-- the fault of the first of so many files that is no log, where the first file's log has this number
abbrev pub first_fault : Game → Contents → (number many : ℕ) → Option FaultyLog
first_fault game files number zero = None
first_fault game files number (suc many) = option_or (option_map (of_log number) (log_fault game (first_bytes files))) (first_fault game (behind_first files) (number + 1) many)

-- the entries of so many logs
abbrev pub logs_in : Game → Contents → (many : ℕ) → List (List Entry)
logs_in game files zero = []
logs_in game files (suc many) = entries_in game (first_bytes files) ∷ logs_in game (behind_first files) many

-- and whose they are
abbrev pub owners_in : Game → Contents → (many : ℕ) → List (Option ℕ)
owners_in game files zero = []
owners_in game files (suc many) = L.owner_in game (first_bytes files) ∷ owners_in game (behind_first files) many

-- whether the shelf failed
abbrev pub is_shelf_failed : LogsTaken → Bool
is_shelf_failed Whole = false
is_shelf_failed (Bad log fault) = false
is_shelf_failed Failed = true
is_shelf_failed Memory = false

-- the answer where the file of the log of this number wasn't taken whole
abbrev pub stopped_by : ℕ → FileFault → LogsTaken
stopped_by log (file.Bad fault) = Bad log fault
stopped_by log file.Failed = Failed
stopped_by log file.Memory = Memory

-- An auditor that stood for as many logs as the number says stands for them with these behind them, each its owner's.
abbrev pub TakesLogs : Game → (a a' : AuditState) → Contents → (number many : ℕ) → Type 0
TakesLogs game a a' files number many =
    (owners : List (Option ℕ)) (logs : List (List Entry)) → length logs ≡ number → StandsFor game owners logs a →
    StandsFor game (owners ++ owners_in game files many) (logs ++ logs_in game files many) a'

-- This was answered of files with these contents: all are logs, which were taken; or this is the first fault; or reading stopped before.
abbrev pub AreAnswered : Game → (a a' : AuditState) → Contents → (number many : ℕ) → LogsTaken → Type 0
AreAnswered game a a' files number many Whole = (first_fault game files number many ≡ None) × TakesLogs game a a' files number many
AreAnswered game a a' files number many (Bad log fault) = first_fault game files number many ≡ Some (of_log log fault)
AreAnswered game a a' files number many Failed = Unit {0}
AreAnswered game a a' files number many Memory = Unit {0}

-- Logs were taken from the files of these names, one behind the other, and of no file was anything read behind one that is no log. The
-- answer is that of any contents that give what the shelf answered.
pub record TakesFiles (game : Game) (before after : ShelfState) (names : List (List ℕ)) (a a' : AuditState) (number : ℕ) (taken : LogsTaken) : Type 0 where
  pub calls : Calls
  pub reads : ReadsFiles names before after calls
  pub counted : after.faults ≡ faults_behind (is_shelf_failed taken) before.faults
  pub due : (files : Contents) → AreContents files calls → (i : ℕ) → (item_or calls i [] ≡ []) ⊎ (first_fault game files number i ≡ None)
  pub answer : (files : Contents) → AreContents files calls → AreAnswered game a a' files number (length names) taken
