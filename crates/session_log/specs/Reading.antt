-- Reading: what a reader of a log answers next, and all that it reads.
use Rattle.std.specs.Prelude.{ℕ, zero, suc, ◌+◌, List, [], ◌∷◌, drop, Option, Some, None, Result, Ok, Err, length, nat_lt, nat_le, if◌then◌else◌}
use Rattle.definitions.specs.declared.logs.Entry.{Entry}
use Rattle.session_log.specs.declared.faults.LogFault.{LogFault}
use Rattle.definitions.specs.declared.logs.LogWhy.{LogWhy}
use Rattle.definitions.specs.declared.logs.LogWhy.TheVariants.{TooLong, Torn, BadChain, BadEntry, NotReplayed}
use Rattle.definitions.specs.World.{Game, players_of}
use Rattle.session_log.specs.declared.finding.Found.{Found}
use Rattle.session_log.specs.declared.finding.Found.TheVariants as found
use Rattle.session_log.specs.declared.reader.Next.{Next}
use Rattle.session_log.specs.declared.reader.Next.TheVariants as next
use Rattle.session_log.specs.Spelling.{first_chain}
use Rattle.session_log.specs.Finding.{entry_at}

-- what comes next of a log: an entry, none, or the log's first fault
abbrev pub Answer : Type 0
Answer = Result (Option Entry) LogFault

-- how a log ends: behind an entry or without bytes, or with its first fault
abbrev pub Ending : Type 0
Ending = Result (Unit {0}) LogFault

-- the fault at this place
abbrev pub fault_at : ℕ → LogWhy → LogFault
fault_at at why = record { at = at; why = why }

-- the same as it is told, and the fault of which that tells
abbrev pub next_by : LogWhy → ℕ → Next
next_by TooLong at = next.BadEntry at
next_by Torn at = next.Torn at
next_by BadChain at = next.BadChain at
next_by BadEntry at = next.BadEntry at
next_by NotReplayed at = next.BadEntry at

abbrev pub next_of : Answer → Next
next_of (Ok (Some e)) = next.Entry e
next_of (Ok None) = next.End
next_of (Err fault) = next_by fault.why fault.at

abbrev pub fault_in : Next → Option LogFault
fault_in (next.Entry e) = None
fault_in next.End = None
fault_in (next.Torn at) = Some (fault_at at Torn)
fault_in (next.BadChain at) = Some (fault_at at BadChain)
fault_in (next.BadEntry at) = Some (fault_at at BadEntry)

-- what comes next where a log has ended so
abbrev pub answer_of : Ending → Answer
answer_of (Ok whole) = Ok None
answer_of (Err fault) = Err fault

-- a reader: the owner's byte, once it was read, the place where the next entry begins, the digest before it (or the
-- session's id), and how the log ended, once it has
pub record LogReading : Type 0 where
  pub owner : Option ℕ
  pub at : ℕ
  pub chain : List ℕ
  pub said : Option Ending

-- a reader that read nothing yet
abbrev pub log_at_start : List ℕ → LogReading
log_at_start id = record { owner = None; at = 0; chain = id; said = None }

-- a reader and what it answers
pub record Step : Type 0 where
  pub reader : LogReading
  pub answer : Answer

-- the reader with this owner
abbrev pub owned : LogReading → ℕ → LogReading
owned r me = record { owner = Some me; at = r.at; chain = r.chain; said = r.said }

-- the log ended so
abbrev pub ended : LogReading → Ending → Step
ended r end = record { reader = record { owner = r.owner; at = r.at; chain = r.chain; said = Some end }; answer = answer_of end }

-- the step on what stands where the owner's next entry begins, at this place
abbrev pub step_on : LogReading → ℕ → ℕ → Found → Step
step_on r me at found.Torn = ended (owned r me) (Err (fault_at at Torn))
step_on r me at (found.Bad why) = ended (owned r me) (Err (fault_at at why))
step_on r me at (found.Whole e count digest) =
    record { reader = record { owner = Some me; at = at + count; chain = digest; said = r.said }; answer = Ok (Some e) }

-- the step behind the owner's byte, where a player has this number
abbrev pub step_behind : Game → LogReading → ℕ → List ℕ → Step
step_behind game r me [] = ended (owned r me) (Err (fault_at 0 Torn))
step_behind game r me (b ∷ bytes) = step_on r me 1 (entry_at game me (first_chain r.chain me) (b ∷ bytes))

-- the step where nothing was read yet
abbrev pub first_step : Game → LogReading → List ℕ → Step
first_step game r [] = ended r (Ok tt)
first_step game r (me ∷ bytes) = if nat_lt me (players_of game) then step_behind game r me bytes else ended (owned r me) (Err (fault_at 0 BadEntry))

-- the step where an entry was read
abbrev pub further_step : Game → LogReading → ℕ → List ℕ → Step
further_step game r me bytes = if nat_le (length bytes) r.at then ended r (Ok tt) else step_on r me r.at (entry_at game me r.chain (drop r.at bytes))

abbrev pub step_by : Game → LogReading → Option ℕ → List ℕ → Step
step_by game r None bytes = first_step game r bytes
step_by game r (Some me) bytes = further_step game r me bytes

abbrev pub step_unless : Option Ending → LogReading → Step → Step
step_unless None r s = s
step_unless (Some end) r s = record { reader = r; answer = answer_of end }

-- the step of a reader of this log: an end stays
unfoldable pub next_step : Game → List ℕ → LogReading → Step
next_step game bytes r = step_unless r.said r (step_by game r r.owner bytes)

-- the entries of a log, and how reading them ended
pub record ReadLog : Type 0 where
  pub entries : List Entry
  pub reader : LogReading

-- an entry in front of those that are read on
abbrev pub read_on : Answer → LogReading → ReadLog → ReadLog
read_on (Ok (Some e)) r behind = record { entries = e ∷ behind.entries; reader = behind.reader }
read_on (Ok None) r behind = record { entries = []; reader = r }
read_on (Err fault) r behind = record { entries = []; reader = r }

-- what a reader reads with so many steps at most
abbrev pub read_by : Game → List ℕ → ℕ → LogReading → ReadLog
read_by game bytes zero r = record { entries = []; reader = r }
read_by game bytes (suc most) r =
    read_on (next_step game bytes r).answer (next_step game bytes r).reader (read_by game bytes most (next_step game bytes r).reader)

-- all of a log: each entry has a byte at least, so no more steps are needed
unfoldable pub read_log : Game → List ℕ → ReadLog
read_log game bytes = read_by game bytes (suc (length bytes)) (log_at_start game.id)
