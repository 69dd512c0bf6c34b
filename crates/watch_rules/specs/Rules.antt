-- Rules: which item may come next, by what was shown before it.
use Rattle.std.specs.Prelude.{ℕ, Bool, true, false, not, ◌&&◌, nat_lt, nat_le, List, [], Option, Some, None, length, IsTrue}
use Rattle.definitions.specs.Lists.{is_empty}
use Rattle.socket_station.specs.declared.answers.Addr.{Addr}
use Rattle.socket_station.specs.Items.{Item, Call, ListenCall, LogCall, DialCall, PollCall, ReadCall, WriteCall, KeepCall, SyncCall, Listening, LogBegun, Dialled, Polled, Took, Gave, ReadNotYet, WriteNotYet, Ended, Failed, Shut, Kept, Synced}
use Rattle.socket_lines.specs.declared.line.Line.{Line}
use Rattle.peer_rules.specs.Addresses.{told_addr, addr_eq}
use Rattle.loop_rules.specs.Rules.{is_front}
use Rattle.socket_list.specs.Sockets.{line_of}
use Rattle.watch_rules.specs.declared.phases.WatchPhase.{WatchPhase}
use Rattle.watch_rules.specs.declared.phases.WatchPhase.TheVariants.{Fresh, Running, PollFault}
use Rattle.watch_rules.specs.Views.{View}
use Rattle.watch_rules.specs.Hearing.{room_on}
use Rattle.watch_rules.specs.Licence.{is_running, asks_shut, is_licensed}

-- ---- beginning: it listens at its own address

-- no call was made
abbrev pub is_fresh : WatchPhase → Bool
is_fresh Fresh = true
is_fresh Running = false
is_fresh PollFault = false

-- it may listen there
abbrev pub may_listen : View → Addr → Bool
may_listen v addr = is_fresh v.phase && addr_eq addr (told_addr v.setting.roster.me)

-- ---- reading: an open socket that is not to be shut, and never past a limit

-- the socket is to be read: no read found nothing since the last poll that listed it
abbrev pub wants_read : View → Line → Bool
wants_read v l = l.is_open && not (asks_shut v l) && not l.is_quiet

-- a read of this line's socket may be answered, if there is one
abbrev pub may_read_line : View → Option Line → Bool
may_read_line v None = false
may_read_line v (Some l) = is_running v.phase && wants_read v l

-- a read of the socket may be answered
abbrev pub may_read : View → (s : ℕ) → Bool
may_read v s = may_read_line v (line_of v.sockets s)

-- so many bytes may be read: one at least, and no more than may be taken
abbrev pub is_within : View → (count : ℕ) → Option Line → Bool
is_within v count None = false
is_within v count (Some l) = nat_lt 0 count && nat_le count (room_on v l)

-- these bytes may be read of the socket
abbrev pub may_take : View → (s : ℕ) → List ℕ → Bool
may_take v s bytes = may_read v s && is_within v (length bytes) (line_of v.sockets s)

-- ---- writing: an open socket that is not to be shut, and what is left of its WANT

-- the socket is to be written: no write was refused since the last poll that listed it
abbrev pub wants_write : View → Line → Bool
wants_write v l = l.is_open && not (asks_shut v l) && not l.is_blocked && not (is_empty l.unsent)

-- a write on this line's socket may be answered, if there is one
abbrev pub may_write_line : View → Option Line → Bool
may_write_line v None = false
may_write_line v (Some l) = is_running v.phase && wants_write v l

-- a write on the socket may be answered
abbrev pub may_write : View → (s : ℕ) → Bool
may_write v s = may_write_line v (line_of v.sockets s)

-- these are the first ones of the bytes that are due on this line
abbrev pub are_due : List ℕ → Option Line → Bool
are_due bytes None = false
are_due bytes (Some l) = is_front bytes l.unsent

-- these bytes may be given on the socket
abbrev pub may_give : View → (s : ℕ) → List ℕ → Bool
may_give v s bytes = may_write v s && are_due bytes (line_of v.sockets s)

-- ---- shutting: where a rule or a limit asks for it

-- this line's socket may be shut, if there is one
abbrev pub may_shut_line : View → Option Line → Bool
may_shut_line v None = false
may_shut_line v (Some l) = is_running v.phase && asks_shut v l

-- the socket may be shut
abbrev pub may_shut : View → (s : ℕ) → Bool
may_shut v s = may_shut_line v (line_of v.sockets s)

-- ---- all items: it dials nobody, and keeps no log

-- a call may fail where it may be made
abbrev pub may_fail : View → Call → Bool
may_fail v (ListenCall addr) = may_listen v addr
may_fail v (LogCall name) = false
may_fail v (DialCall q addr) = false
may_fail v PollCall = is_licensed v
may_fail v (ReadCall s) = may_read v s
may_fail v (WriteCall s) = may_write v s
may_fail v (KeepCall bytes) = false
may_fail v SyncCall = false

-- the item may come next
abbrev pub is_allowed : View → Item → Bool
is_allowed v (LogBegun name) = false
is_allowed v (Listening addr) = may_listen v addr
is_allowed v (Dialled s q addr) = false
is_allowed v (Polled list) = is_licensed v
is_allowed v (Took s bytes) = may_take v s bytes
is_allowed v (Gave s bytes) = may_give v s bytes
is_allowed v (ReadNotYet s) = may_read v s
is_allowed v (WriteNotYet s) = may_write v s
is_allowed v (Ended s) = may_read v s
is_allowed v (Shut s) = may_shut v s
is_allowed v (Kept bytes) = false
is_allowed v Synced = false
is_allowed v (Failed call) = may_fail v call

-- the same as a fact
abbrev pub IsAllowed : View → Item → Type 0
IsAllowed v item = IsTrue (is_allowed v item)
