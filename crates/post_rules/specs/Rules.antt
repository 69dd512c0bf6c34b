-- Rules: which item may come next, by what was shown before it.
use Rattle.std.specs.Prelude.{ℕ, Bool, false, not, ◌&&◌, ◌==◌, nat_lt, List, Option, Some, None, length, slice_get, is_none, IsTrue}
use Rattle.std.specs.Str.{bytes_eq}
use Rattle.definitions.specs.Advance.{next_made}
use Rattle.socket_station.specs.declared.answers.Addr.{Addr}
use Rattle.datagram_post.specs.Items.{Item, Call, BindCall, LogCall, PollCall, ReceiveCall, SendCall, KeepCall, SyncCall, Bound, LogBegun, Polled, Took, ReceiveNotYet, Gave, SendNotYet, Failed, Kept, Synced}
use Rattle.datagram_post.specs.Moved.{Mail}
use Rattle.peer_rules.specs.Addresses.{told_addr, addr_eq}
use Rattle.peer_rules.specs.Phases.{is_fresh, is_logged, is_running}
use Rattle.post_rules.specs.Views.{View}
use Rattle.post_rules.specs.Handling.{is_handled}
use Rattle.post_rules.specs.Keeping.{spells_next}
use Rattle.post_rules.specs.Sending.{batch}
use Rattle.post_rules.specs.Licence.{may_send, is_licensed}

-- ---- beginning: a new log, and then the own address

-- a log may be begun
abbrev pub may_begin : View → Bool
may_begin v = is_fresh v.phase

-- the own address may be bound, and this is it
abbrev pub may_bind : View → Addr → Bool
may_bind v addr = is_logged v.phase && addr_eq addr (told_addr v.setting.roster.me)

-- ---- receiving: until nothing is there or enough was taken, and before anything new is kept

-- a datagram may be taken
abbrev pub may_receive : View → Bool
may_receive v = is_running v.phase && not v.settling.is_received && not v.settling.is_stored && (v.synced == length v.kept)

-- ---- the log: the new entries are kept and then synced, once, when none is left

-- these bytes may be kept
abbrev pub may_keep : View → List ℕ → Bool
may_keep v bytes = is_running v.phase && not v.settling.is_stored && spells_next v bytes

-- what is kept may be synced
abbrev pub may_sync : View → Bool
may_sync v =
    is_running v.phase && nat_lt v.synced (length v.kept) && is_none (next_made v.setting.game v.setting.me v.kept) &&
    is_handled v.setting.game v.setting.me v.kept v.waiting

-- ---- sending: the datagrams of the batch in their order, each once

-- there is such a datagram, to this address and of these bytes
abbrev pub is_mail : Option Mail → Addr → (bytes : List ℕ) → Bool
is_mail None addr bytes = false
is_mail (Some m) addr bytes = addr_eq addr m.to && bytes_eq bytes m.bytes

-- this datagram may be given
abbrev pub may_give : View → Addr → (bytes : List ℕ) → Bool
may_give v addr bytes = may_send v && is_mail (slice_get (batch v) v.settling.sent) addr bytes

-- ---- all items

-- a call may fail where it may be made
abbrev pub may_fail : View → Call → Bool
may_fail v (BindCall addr) = may_bind v addr
may_fail v (LogCall name) = may_begin v
may_fail v PollCall = is_licensed v
may_fail v ReceiveCall = may_receive v
may_fail v (SendCall addr bytes) = may_give v addr bytes
may_fail v (KeepCall bytes) = may_keep v bytes
may_fail v SyncCall = may_sync v

-- the item may come next
abbrev pub is_allowed : View → Item → Bool
is_allowed v (LogBegun name) = may_begin v
is_allowed v (Bound addr) = may_bind v addr
is_allowed v Polled = is_licensed v
is_allowed v (Took bytes) = may_receive v
is_allowed v ReceiveNotYet = may_receive v
is_allowed v (Gave addr bytes) = may_give v addr bytes
is_allowed v (SendNotYet addr bytes) = may_give v addr bytes
is_allowed v (Kept bytes) = may_keep v bytes
is_allowed v Synced = may_sync v
is_allowed v (Failed call) = may_fail v call

-- the item may come next, as a proposition
abbrev pub IsAllowed : View → Item → Type 0
IsAllowed v item = IsTrue (is_allowed v item)
