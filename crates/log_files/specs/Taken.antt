-- Taken: what is taken of a log's file, and what is answered.
use Rattle.std.specs.Prelude.{◌≡◌, ℕ, ◌<◌, ◌≤◌, Bool, true, false, List, [], ◌++◌, Option, None, Some, length}
use Rattle.definitions.specs.declared.limits.TheConstants.{LOG_FRONT, LONGEST_LOG}
use Rattle.definitions.specs.declared.logs.Entry.{Entry}
use Rattle.definitions.specs.declared.logs.LogWhy.TheVariants.{TooLong}
use Rattle.definitions.specs.World.{Game}
use Rattle.station.specs.Pieces.{AllGive}
use Rattle.station.specs.Shelves.{ShelfState}
use Rattle.station.specs.Since.{since}
use Rattle.line_io.specs.Fronts.{Fetched, bytes_read}
use Rattle.session_log.specs.Laws as L
use Rattle.session_log.specs.Reading.{fault_at}
use Rattle.log_streams.specs.Streams.{entries_in}
use Rattle.auditor.specs.Audits.{AuditState, count_in, owner_in}
use Rattle.auditor.specs.Taking.{LeavesOthers, Takes}
use Rattle.log_files.specs.Logs.{log_fault}
use Rattle.log_files.specs.declared.taking.LogTaken.{LogTaken}
use Rattle.log_files.specs.declared.taking.LogTaken.TheVariants.{Whole, Bad, Failed, Memory}

-- the auditor has nothing of the log
pub record IsUntaken (a : AuditState) (log : ℕ) : Type 0 where
  pub none : count_in a log ≡ 0
  pub unowned : owner_in a log ≡ None

-- whether the shelf failed
abbrev pub is_failed : LogTaken → Bool
is_failed Whole = false
is_failed (Bad at why) = false
is_failed Failed = true
is_failed Memory = false

-- The bytes are a log, all its entries were taken, and it has their owner.
pub record IsTaken (game : Game) (a a' : AuditState) (log : ℕ) (bytes : List ℕ) : Type 0 where
  pub sound : log_fault game bytes ≡ None
  pub taken : Takes a a' log (entries_in game bytes)
  pub owner : owner_in a' log ≡ L.owner_in game bytes

-- The first of these entries were taken.
pub record IsTakenInPart (a a' : AuditState) (log : ℕ) (entries : List Entry) : Type 0 where
  pub front : List Entry
  pub behind : List Entry
  pub parts : entries ≡ front ++ behind
  pub taken : Takes a a' log front

-- the entries of a file, if it is there
abbrev pub file_entries : Game → Option (List ℕ) → List Entry
file_entries game None = []
file_entries game (Some bytes) = entries_in game bytes

-- The file is there, and so.
abbrev pub IsThere : Option (List ℕ) → (List ℕ → Type 0) → Type 0
IsThere None so = ⊥
IsThere (Some bytes) so = so bytes

-- This was answered of a file with this content: it is a log that was taken whole; it has this fault as its first; or reading it
-- stopped before. In the last three cases its first entries were taken.
abbrev pub IsAnswer : Game → (a a' : AuditState) → (log : ℕ) → Option (List ℕ) → LogTaken → Type 0
IsAnswer game a a' log content Whole = IsThere content (IsTaken game a a' log)
IsAnswer game a a' log content (Bad at why) = IsThere content (λ bytes. log_fault game bytes ≡ Some (fault_at at why)) × IsTakenInPart a a' log (file_entries game content)
IsAnswer game a a' log content Failed = IsTakenInPart a a' log (file_entries game content)
IsAnswer game a a' log content Memory = IsTakenInPart a a' log (file_entries game content)

-- A log was taken from the file of this name: it was read from its front on, and no further than a byte past the longest log, and a
-- fault is counted exactly where it is answered. The answer is that of any content that gives what the shelf answered.
pub record TakesLog (game : Game) (before now : ShelfState) (name : List ℕ) (a a' : AuditState) (log : ℕ) (taken : LogTaken) : Type 0 where
  pub fetched : Fetched before now name (is_failed taken)
  pub short : length (bytes_read (since before.pieces now.pieces)) ≤ LOG_FRONT
  -- one that is found to be too long is answered as that, also where memory is wanting
  pub long : LONGEST_LOG < length (bytes_read (since before.pieces now.pieces)) → taken ≡ Bad LONGEST_LOG TooLong
  pub answer : (content : Option (List ℕ)) → AllGive content (since before.pieces now.pieces) → IsAnswer game a a' log content taken
  pub session : a'.session ≡ a.session
  pub others : LeavesOthers a a' log
