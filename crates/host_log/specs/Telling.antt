-- Telling: what stands in the file of a log, and what of it stays, is what was kept and synced.
use Rattle.std.specs.Prelude.{◌≡◌, ℕ, Bool, true, false, List, [], ◌++◌, Option, Some, None, Ok, take, if◌then◌else◌}
use Rattle.std.specs.List.{fold}
use Rattle.socket_station.specs.Moved.{Log}
use Rattle.machine_host.specs.Asks.{Ask, Appended, Created, FileSynced, FolderSynced}
use Rattle.host_log.specs.Logs.{LogStand}

-- the file that was created last: what stands in it, what of that was synced, and whether its folder was
pub record File : Type 0 where
  pub bytes : List ℕ
  pub synced : List ℕ
  pub is_listed : Bool

abbrev pub no_file : File
no_file = record { bytes = []; synced = []; is_listed = false }

abbrev pub file_after : File → Ask → File
file_after f (Created path mode None) = no_file
file_after f (Appended bytes (Ok count)) = record { bytes = f.bytes ++ take count bytes; synced = f.synced; is_listed = f.is_listed }
file_after f (FileSynced None) = record { bytes = f.bytes; synced = f.bytes; is_listed = f.is_listed }
file_after f (FolderSynced None) = record { bytes = f.bytes; synced = f.synced; is_listed = true }
file_after f _ = f

abbrev pub file_in : List Ask → File
file_in asks = fold file_after no_file asks

-- what of the file stays after a crash of the machine
abbrev pub stays_of : File → List ℕ
stays_of f = if f.is_listed then f.synced else []

-- the first bytes of others
abbrev pub IsFront : List ℕ → List ℕ → Type 0
IsFront front whole = (rest : List ℕ) × (whole ≡ front ++ rest)

-- The log and the file: before a log is begun there is none; while one stands, the file has what was
-- kept and no more, and its folder was synced where that isn't to be done any more. After a call of
-- the log failed the file may have more.
abbrev pub IsLog : (log : Option Bool) → (begun : Bool) → File → Log → Type 0
IsLog None false file log = (file ≡ no_file) × (log ≡ record { kept = []; synced = [] })
IsLog None true file log = Unit {0}
IsLog (Some has_folder) begun file log =
    (begun ≡ true) × (file.bytes ≡ log.kept) × (has_folder ≡ false → file.is_listed ≡ true) × IsFront log.synced log.kept

-- At every moment: what was kept stands in the file, in order, and what was synced stays.
pub record TellsLog (stand : LogStand) (asks : List Ask) (log : Log) : Type 0 where
  pub kept : IsFront log.kept (file_in asks).bytes
  pub synced : IsFront log.synced (stays_of (file_in asks))
  pub same : IsLog stand.file stand.begun (file_in asks) log

-- the log after bytes were kept, or that failed
abbrev pub log_kept : (is_done : Bool) → (bytes : List ℕ) → Log → Log
log_kept true bytes log = record { kept = log.kept ++ bytes; synced = log.synced }
log_kept false bytes log = log

-- after it was synced, or that failed
abbrev pub log_synced : (is_done : Bool) → Log → Log
log_synced true log = record { kept = log.kept; synced = log.kept }
log_synced false log = log
