-- Old: what a log has before its first fault, and why a peer can't go on from it.
use Rattle.std.specs.Prelude.{◌≡◌, ℕ, ◌+◌, Bool, false, not, ◌&&◌, ◌==◌, List, [], Option, Some, None, Result, Ok, Err, length, nat_lt, option_map, take, if◌then◌else◌}
use Rattle.std.specs.Option.{option_or}
use Rattle.definitions.specs.declared.logs.Entry.{Entry}
use Rattle.session_log.specs.declared.faults.LogFault.{LogFault}
use Rattle.definitions.specs.declared.logs.LogWhy.TheVariants.{TooLong, NotReplayed}
use Rattle.definitions.specs.Lists.{is_empty}
use Rattle.definitions.specs.World.{Game}
use Rattle.session_log.specs.Spelling.{entries_bytes, first_chain, log_bytes}
use Rattle.session_log.specs.Writing.{all_after, fresh}
use Rattle.session_log.specs.Reading.{Ending, fault_at, read_log}
use Rattle.old_log.specs.declared.reading.OldLog.{OldLog}
use Rattle.peer_core.specs.Resuming.{first_not_replayed}
use Rattle.definitions.specs.declared.limits.TheConstants.{LONGEST_LOG}

-- whose log it is, where it has a first byte
abbrev pub old_owner : Game → List ℕ → Option ℕ
old_owner game bytes = (read_log game bytes).reader.owner

-- the entries before the log's first fault
abbrev pub old_entries : Game → List ℕ → List Entry
old_entries game bytes = (read_log game bytes).entries

-- the fault with which a log ends, if it does
abbrev pub fault_of : {A : Type 0} → Result A LogFault → Option LogFault
fault_of (Ok whole) = None
fault_of (Err fault) = Some fault

-- the same of how a log ended, once it has
abbrev pub fault_said : Option Ending → Option LogFault
fault_said None = None
fault_said (Some end) = fault_of end

-- the byte where the fault begins, if there is one
abbrev pub fault_place : {A : Type 0} → Result A LogFault → Option ℕ
fault_place end = option_map (λ (fault : LogFault). fault.at) (fault_of end)

-- the same of how a log ended, once it has
abbrev pub place_said : Option Ending → Option ℕ
place_said said = option_map (λ (fault : LogFault). fault.at) (fault_said said)

-- the fault with which the log of these bytes ends, if it does
abbrev pub end_fault : Game → List ℕ → Option LogFault
end_fault game bytes = fault_said (read_log game bytes).reader.said

-- the first fault of the bytes as a log, if they have one: that they are too many, or else the one with which they end
abbrev pub log_fault : Game → List ℕ → Option LogFault
log_fault game bytes = if nat_lt LONGEST_LOG (length bytes) then Some (fault_at LONGEST_LOG TooLong) else end_fault game bytes

-- the byte from which on the log is dropped, if it has a fault
abbrev pub dropped_at : Game → List ℕ → Option ℕ
dropped_at game bytes = place_said (read_log game bytes).reader.said

-- the log has entries, and its owner is another than this player
abbrev pub is_anothers : ℕ → Option ℕ → List Entry → Bool
is_anothers me None entries = false
is_anothers me (Some owner) entries = not (owner == me) && not (is_empty entries)

-- This is what the log has before its first fault, where a player is to go on from it. Where it
-- isn't another's, so many of its bytes are kept, and the writer stands as one that wrote its
-- entries.
pub record IsOld (game : Game) (me : ℕ) (bytes : List ℕ) (log : OldLog) : Type 0 where
  pub entries_are : log.entries.items ≡ old_entries game bytes
  pub others_is : log.anothers ≡ is_anothers me (old_owner game bytes) (old_entries game bytes)
  pub fault_is : log.fault ≡ end_fault game bytes
  pub kept_is : log.anothers ≡ false → log.kept ≡ length (log_bytes game.id me (old_entries game bytes))
  pub writer_is : log.anothers ≡ false → log.writer ≡ all_after (fresh game.id me) (old_entries game bytes)

-- the byte behind these entries of a log: that of the next one
abbrev pub place_behind : List ℕ → ℕ → List Entry → ℕ
place_behind id owner entries = 1 + length (entries_bytes (first_chain id owner) entries)

-- the fault of the player's log whose entry of this number may not follow those before it, if there is one
abbrev pub breach : Game → ℕ → List Entry → Option ℕ → Option LogFault
breach game me entries None = None
breach game me entries (Some i) = Some (fault_at (place_behind game.id me (take i entries)) NotReplayed)

-- why a peer for this player can't go on from the log: the first cause, if there is one
abbrev pub old_fault : Game → ℕ → List ℕ → Option LogFault
old_fault game me bytes =
    if nat_lt LONGEST_LOG (length bytes) then Some (fault_at LONGEST_LOG TooLong)
    else if is_anothers me (old_owner game bytes) (old_entries game bytes) then Some (fault_at 1 NotReplayed)
    else breach game me (old_entries game bytes) (first_not_replayed game me [] (old_entries game bytes))

-- why the log isn't a whole one of which a peer for this player can be had, if there is a cause: its own first fault, or else the first cause that a
-- peer can't go on from it
abbrev pub whole_fault : Game → ℕ → List ℕ → Option LogFault
whole_fault game me bytes = option_or (log_fault game bytes) (old_fault game me bytes)
