-- Logs: how a log stands, and what its calls ask the machine and change.
use Rattle.std.specs.Prelude.{◌≡◌, ℕ, Bool, true, false, List, Option, Some, None}
use Rattle.machine_host.specs.Asks.{Ask}
use Rattle.host_log.specs.Files.{AppendsAll, CreatesLog, SyncsLog}

pub record LogStand : Type 0 where
  -- None where no file stands, or else whether its folder is still to be synced
  pub file : Option Bool
  -- whether a log was begun: there is one at most
  pub begun : Bool

-- how a file stands: None where none does, or else whether its folder is still to be synced
abbrev pub file_stand : (has_file has_folder : Bool) → Option Bool
file_stand false has_folder = None
file_stand true has_folder = Some has_folder

-- none was begun
abbrev pub no_log : LogStand
no_log = record { file = None; begun = false }

-- a log is begun once: the file of that name is a new one, or the call failed
abbrev pub LogsTo : (name : List ℕ) → (was_begun is_done : Bool) → (before after : List Ask) → Type 0
LogsTo name true is_done before after = (is_done ≡ false) × (after ≡ before)
LogsTo name false is_done before after = CreatesLog name is_done before after

-- the bytes are appended to the log that stands, all of them, or the call failed
abbrev pub Keeps : (bytes : List ℕ) → (file : Option Bool) → (is_done : Bool) → (before after : List Ask) → Type 0
Keeps bytes None is_done before after = (is_done ≡ false) × (after ≡ before)
Keeps bytes (Some has_folder) is_done before after = AppendsAll bytes is_done before after

-- the log that stands is synced, and its folder, where that wasn't yet, or the call failed
abbrev pub SyncsTo : (file : Option Bool) → (is_done : Bool) → (before after : List Ask) → Type 0
SyncsTo None is_done before after = (is_done ≡ false) × (after ≡ before)
SyncsTo (Some has_folder) is_done before after = SyncsLog has_folder is_done before after

-- so it stands after a log was begun, or that failed
abbrev pub logged_on : (is_done : Bool) → LogStand → LogStand
logged_on true stand = record { file = Some true; begun = true }
logged_on false stand = stand

-- after bytes were kept, or that failed
abbrev pub kept_on : (is_done : Bool) → LogStand → LogStand
kept_on true stand = stand
kept_on false stand = record { file = None; begun = stand.begun }

-- after it was synced, or that failed
abbrev pub synced_on : (is_done : Bool) → LogStand → LogStand
synced_on true stand = record { file = Some false; begun = stand.begun }
synced_on false stand = record { file = None; begun = stand.begun }
