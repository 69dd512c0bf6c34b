-- Rules: which item may come next for a log of these bytes, by what was shown before it.
use Rattle.std.specs.Prelude.{ℕ, Bool, true, false, not, ◌&&◌, ◌||◌, ◌==◌, nat_le, nat_lt, List, [], drop, length, Option, Some, None, if◌then◌else◌, IsTrue}
use Rattle.definitions.specs.Lists.{is_empty}
use Rattle.socket_station.specs.declared.answers.Addr.{Addr}
use Rattle.socket_station.specs.Items.{Item, Call, ListenCall, LogCall, DialCall, PollCall, ReadCall, WriteCall, KeepCall, SyncCall, Listening, LogBegun, Dialled, Polled, Took, Gave, ReadNotYet, WriteNotYet, Ended, Failed, Shut, Kept, Synced}
use Rattle.peer_rules.specs.Addresses.{addr_eq}
use Rattle.loop_rules.specs.Rules.{is_front}
use Rattle.deposit_rules.specs.declared.phases.DepositPhase.{DepositPhase}
use Rattle.deposit_rules.specs.declared.phases.DepositPhase.TheVariants.{Giving, PollFault}
use Rattle.deposit_rules.specs.declared.line.DepositLine.{DepositLine}
use Rattle.deposit_rules.specs.Lines.{asks_shut, room_of}
use Rattle.deposit_rules.specs.Views.{View}

-- no poll failed
abbrev pub is_giving : DepositPhase → Bool
is_giving Giving = true
is_giving PollFault = false

-- ---- how far it came

-- all bytes from there on were given, or a place at or past the log's end was asked for
abbrev pub is_at_end : (log : List ℕ) → Option ℕ → Bool
is_at_end log None = false
is_at_end log (Some at) = nat_le (length log) at

-- the log's last byte was given, or a WANT asked for a place at or past its end
abbrev pub is_sent : (log : List ℕ) → View → Bool
is_sent log v = is_at_end log v.line.cursor

-- ---- dialling: the logger, once between two polls, where no socket of its own is open

-- the player may be dialled there
abbrev pub may_dial : View → (q : ℕ) → Addr → Bool
may_dial v q addr = is_giving v.phase && not v.line.is_open && not v.is_dialled && (q == v.setting.player) && addr_eq addr v.setting.addr

-- ---- the socket

-- this is its socket, and open
abbrev pub is_its : (s : ℕ) → View → Bool
is_its s v = is_giving v.phase && v.line.is_open && (v.line.socket == s)

-- it is to be read: nothing asks to shut it, and no read found nothing since the last poll that
-- listed it
abbrev pub wants_read : DepositLine → Bool
wants_read w = w.is_open && not (asks_shut w) && not w.is_quiet

-- a read of the socket may be answered
abbrev pub may_read : View → (s : ℕ) → Bool
may_read v s = is_its s v && wants_read v.line

-- these bytes may be read of the socket: one at least, and never past the limit
abbrev pub may_take : View → (s : ℕ) → List ℕ → Bool
may_take v s bytes = may_read v s && nat_lt 0 (length bytes) && nat_le (length bytes) (room_of v.line)

-- the bytes of the log from there on
abbrev pub from : (log : List ℕ) → Option ℕ → List ℕ
from log None = []
from log (Some at) = drop at log

-- what is due: the HELLO, and once a WANT came the log from that place on
abbrev pub due : (log : List ℕ) → DepositLine → List ℕ
due log w = if is_empty w.unsent then from log w.cursor else w.unsent

-- it is to be written
abbrev pub wants_write : (log : List ℕ) → DepositLine → Bool
wants_write log w = w.is_open && not (asks_shut w) && not w.is_blocked && not (is_empty (due log w))

-- a write on the socket may be answered
abbrev pub may_write : (log : List ℕ) → View → (s : ℕ) → Bool
may_write log v s = is_its s v && wants_write log v.line

-- these bytes may be given: the first ones of those due
abbrev pub may_give : (log : List ℕ) → View → (s : ℕ) → List ℕ → Bool
may_give log v s bytes = may_write log v s && is_front bytes (due log v.line)

-- the socket may be shut, for a rule or the limit asks for it
abbrev pub may_shut : View → (s : ℕ) → Bool
may_shut v s = is_its s v && asks_shut v.line

-- ---- waiting

-- on an open socket nothing is to be read, and all that is due was given or the last write was
-- refused
abbrev pub is_idle : (log : List ℕ) → DepositLine → Bool
is_idle log w = not w.is_open || (not (asks_shut w) && w.is_quiet && (w.is_blocked || is_empty (due log w)))

-- a poll is licensed: a socket is open or the logger was dialled since the last poll, on an open
-- one nothing is left to do, and the log is not wholly given
abbrev pub is_licensed : (log : List ℕ) → View → Bool
is_licensed log v = is_giving v.phase && (v.line.is_open || v.is_dialled) && is_idle log v.line && not (is_sent log v)

-- ---- all items: it listens nowhere, and keeps no log

-- a call may fail where it may be made
abbrev pub may_fail : (log : List ℕ) → View → Call → Bool
may_fail log v (ListenCall addr) = false
may_fail log v (LogCall name) = false
may_fail log v (DialCall q addr) = may_dial v q addr
may_fail log v PollCall = is_licensed log v
may_fail log v (ReadCall s) = may_read v s
may_fail log v (WriteCall s) = may_write log v s
may_fail log v (KeepCall bytes) = false
may_fail log v SyncCall = false

-- the item may come next
abbrev pub is_allowed : (log : List ℕ) → View → Item → Bool
is_allowed log v (LogBegun name) = false
is_allowed log v (Listening addr) = false
is_allowed log v (Dialled s q addr) = may_dial v q addr
is_allowed log v (Polled list) = is_licensed log v
is_allowed log v (Took s bytes) = may_take v s bytes
is_allowed log v (Gave s bytes) = may_give log v s bytes
is_allowed log v (ReadNotYet s) = may_read v s
is_allowed log v (WriteNotYet s) = may_write log v s
is_allowed log v (Ended s) = may_read v s
is_allowed log v (Shut s) = may_shut v s
is_allowed log v (Kept bytes) = false
is_allowed log v Synced = false
is_allowed log v (Failed call) = may_fail log v call

-- the same as a fact
abbrev pub IsAllowed : (log : List ℕ) → View → Item → Type 0
IsAllowed log v item = IsTrue (is_allowed log v item)
