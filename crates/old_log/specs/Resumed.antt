-- Resumed: what becomes of a log from which a peer is to go on.
use Rattle.std.specs.Prelude.{◌≡◌, ℕ, List, Option, Some, None, Result, Ok, Err, length}
use Rattle.session_log.specs.declared.faults.LogFault.{LogFault}
use Rattle.definitions.specs.World.{Game}
use Rattle.peer_core.specs.Views.{PeerState}
use Rattle.session_log.specs.Spelling.{log_bytes}
use Rattle.session_log.specs.Writing.{all_after, fresh}
use Rattle.old_log.specs.declared.resuming.OldFault.{OldFault}
use Rattle.old_log.specs.declared.resuming.OldFault.TheVariants.{NoMemory, Bad}
use Rattle.old_log.specs.declared.resuming.Resumed.{Resumed}
use Rattle.old_log.specs.Old.{dropped_at, old_entries, old_fault, whole_fault}

-- The log has no fault that refuses it, the peer's log is its entries, and the rest is dropped.
-- The bytes of these entries are kept, and the writer stands as one that wrote them.
pub record IsResumed (game : Game) (me : ℕ) (bytes : List ℕ) (r : Resumed) : Type 0 where
  pub fit : old_fault game me bytes ≡ None
  pub peer_is : r.peer ≡ record { game = game; me = me; entries = old_entries game bytes }
  pub dropped_is : r.dropped ≡ dropped_at game bytes
  pub kept_is : r.kept ≡ length (log_bytes game.id me (old_entries game bytes))
  pub writer_is : r.writer ≡ all_after (fresh game.id me) (old_entries game bytes)

-- the fault is the one that is due; of memory nothing is said
abbrev pub IsDue : Option LogFault → OldFault → Type 0
IsDue due NoMemory = Unit {0}
IsDue due (Bad fault) = due ≡ Some fault

-- what becomes of the log
abbrev pub Resumes : Game → ℕ → List ℕ → Result Resumed OldFault → Type 0
Resumes game me bytes (Ok r) = IsResumed game me bytes r
Resumes game me bytes (Err fault) = IsDue (old_fault game me bytes) fault

-- The log has no fault, and the peer's log is its entries.
pub record IsWhole (game : Game) (me : ℕ) (bytes : List ℕ) (peer : PeerState) : Type 0 where
  pub fit : whole_fault game me bytes ≡ None
  pub peer_is : peer ≡ record { game = game; me = me; entries = old_entries game bytes }

-- what becomes of a log that is to be whole
abbrev pub ResumesWhole : Game → ℕ → List ℕ → Result PeerState OldFault → Type 0
ResumesWhole game me bytes (Ok peer) = IsWhole game me bytes peer
ResumesWhole game me bytes (Err fault) = IsDue (whole_fault game me bytes) fault
