-- Rules: which item may come next, by what was shown before it.
use Rattle.std.specs.Prelude.{ℕ, Bool, false, not, ◌&&◌, ◌||◌, ◌==◌, nat_lt, nat_le, List, [], Option, Some, None, length, take, IsTrue}
use Rattle.std.specs.Str.{bytes_eq}
use Rattle.definitions.specs.declared.frames.TurnFrame.{TurnFrame}
use Rattle.definitions.specs.Lists.{is_empty}
use Rattle.definitions.specs.Findings.{is_clean}
use Rattle.socket_station.specs.declared.answers.Addr.{Addr}
use Rattle.socket_station.specs.Items.{Item, Call, ListenCall, LogCall, DialCall, PollCall, ReadCall, WriteCall, KeepCall, SyncCall, Listening, LogBegun, Dialled, Polled, Took, Gave, ReadNotYet, WriteNotYet, Ended, Failed, Shut, Kept, Synced}
use Rattle.socket_lines.specs.declared.line.Line.{Line}
use Rattle.socket_lines.specs.declared.seat.Seat.{Seat}
use Rattle.socket_lines.specs.Seats.{is_spent}
use Rattle.socket_lines.specs.Giving.{Desk, Speaker, due_bytes}
use Rattle.loop_rules.specs.Settings.{speaker_of}
use Rattle.peer_rules.specs.Addresses.{told_addr, addr_eq}
use Rattle.loop_rules.specs.Tables.{Table, line_of, seat_of, is_served, desk_of, room_on, asks_shut}
use Rattle.loop_rules.specs.Views.{View, safe_frames}
use Rattle.loop_rules.specs.Keeping.{may_keep}
use Rattle.loop_rules.specs.After.{own_at}
use Rattle.loop_rules.specs.Licence.{is_licensed}
use Rattle.peer_rules.specs.Phases.{is_running, is_fresh, is_logged}

-- ---- beginning: a new log, then the entries taken over, kept and synced, then listening at the own address

abbrev pub may_begin : View → Bool
may_begin v = is_fresh v.phase

abbrev pub is_over_kept : View → Bool
is_over_kept v = length v.kept == length v.setting.over

abbrev pub may_listen : View → Addr → Bool
may_listen v addr =
    is_logged v.phase && is_over_kept v && (v.synced == length v.kept) && addr_eq addr (told_addr v.setting.roster.me)

-- ---- the log: a sync has something to sync, and the first one stands behind all entries taken over

abbrev pub may_sync : View → Bool
may_sync v = (is_running v.phase || (is_logged v.phase && is_over_kept v)) && nat_lt v.synced (length v.kept)

-- the loop listens, and its log has no finding: behind one no socket is dialled, read, written or shut
abbrev pub is_serving : View → Bool
is_serving v = is_running v.phase && is_clean v.setting.game v.kept

-- ---- dialling: a player above the own one, which has no open socket, was not dialled since the last poll, and is not spent

abbrev pub wants_dial : (me : ℕ) → Table → Seat → Bool
wants_dial me t c = nat_lt me c.link.player && not (is_served t c.link.player) && not c.is_dialled && not (is_spent c)

abbrev pub may_dial_at : View → Addr → Option Seat → Bool
may_dial_at v addr None = false
may_dial_at v addr (Some c) = is_serving v && wants_dial v.setting.me v.table c && addr_eq addr (told_addr c.link.addr)

abbrev pub may_dial : View → (q : ℕ) → Addr → Bool
may_dial v q addr = may_dial_at v addr (seat_of v.table q)

-- ---- reading: an open socket that is not to be shut, behind no read that found nothing, and never past a limit

abbrev pub wants_read : Table → Line → Bool
wants_read t l = l.is_open && not (asks_shut t l) && not l.is_quiet

abbrev pub may_read_line : View → Option Line → Bool
may_read_line v None = false
may_read_line v (Some l) = is_serving v && wants_read v.table l

abbrev pub may_read : View → (s : ℕ) → Bool
may_read v s = may_read_line v (line_of v.table s)

abbrev pub is_within : Table → (count : ℕ) → Option Line → Bool
is_within t count None = false
is_within t count (Some l) = nat_lt 0 count && nat_le count (room_on t l)

-- bytes are taken only where each frame that came before was handled
abbrev pub may_take : View → (s : ℕ) → List ℕ → Bool
may_take v s bytes = may_read v s && is_empty v.table.waiting && is_within v.table (length bytes) (line_of v.table s)

-- ---- writing: an open socket that is not to be shut, after no write that was refused, and the bytes that go out next

abbrev pub due_at : Speaker → (own : Option TurnFrame) → Option Desk → List ℕ
due_at s own None = []
due_at s own (Some d) = due_bytes s own d

-- the bytes that go out next on a line: of own frames those alone that were kept and synced
abbrev pub due_of : View → Line → List ℕ
due_of v l = due_at (speaker_of v.setting) (own_at (safe_frames v) l) (desk_of v.table l)

abbrev pub may_write_line : View → Option Line → Bool
may_write_line v None = false
may_write_line v (Some l) =
    is_serving v && l.is_open && not (asks_shut v.table l) && not l.is_blocked && not (is_empty (due_of v l))

abbrev pub may_write : View → (s : ℕ) → Bool
may_write v s = may_write_line v (line_of v.table s)

-- some of the first of these bytes
abbrev pub is_front : (bytes all : List ℕ) → Bool
is_front bytes all = nat_lt 0 (length bytes) && bytes_eq bytes (take (length bytes) all)

abbrev pub are_due : View → List ℕ → Option Line → Bool
are_due v bytes None = false
are_due v bytes (Some l) = is_front bytes (due_of v l)

abbrev pub may_give : View → (s : ℕ) → List ℕ → Bool
may_give v s bytes = may_write v s && are_due v bytes (line_of v.table s)

-- ---- shutting: where a rule or a limit asks for it

abbrev pub may_shut_line : View → Option Line → Bool
may_shut_line v None = false
may_shut_line v (Some l) = is_serving v && asks_shut v.table l

abbrev pub may_shut : View → (s : ℕ) → Bool
may_shut v s = may_shut_line v (line_of v.table s)

-- ---- all items

-- a call may fail where it may be made
abbrev pub may_fail : View → Call → Bool
may_fail v (ListenCall addr) = may_listen v addr
may_fail v (LogCall name) = may_begin v
may_fail v (DialCall q addr) = may_dial v q addr
may_fail v PollCall = is_licensed v
may_fail v (ReadCall s) = may_read v s
may_fail v (WriteCall s) = may_write v s
may_fail v (KeepCall bytes) = may_keep v bytes
may_fail v SyncCall = may_sync v

-- the item may come next
abbrev pub is_allowed : View → Item → Bool
is_allowed v (LogBegun name) = may_begin v
is_allowed v (Listening addr) = may_listen v addr
is_allowed v (Dialled s q addr) = may_dial v q addr
is_allowed v (Polled list) = is_licensed v
is_allowed v (Took s bytes) = may_take v s bytes
is_allowed v (Gave s bytes) = may_give v s bytes
is_allowed v (ReadNotYet s) = may_read v s
is_allowed v (WriteNotYet s) = may_write v s
is_allowed v (Ended s) = may_read v s
is_allowed v (Shut s) = may_shut v s
is_allowed v (Kept bytes) = may_keep v bytes
is_allowed v Synced = may_sync v
is_allowed v (Failed call) = may_fail v call

abbrev pub IsAllowed : View → Item → Type 0
IsAllowed v item = IsTrue (is_allowed v item)
