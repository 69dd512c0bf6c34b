-- Keeping: which entry may be kept next, and what is shown behind it.
use Rattle.std.specs.Prelude.{ℕ, Bool, false, ◌&&◌, List, [], ◌∷◌, ◌++◌, drop, Option, Some, None, length, is_none, slice_get}
use Rattle.std.specs.Str.{bytes_eq}
use Rattle.definitions.specs.declared.frames.TurnFrame.{TurnFrame}
use Rattle.definitions.specs.declared.logs.Entry.{Entry}
use Rattle.definitions.specs.declared.logs.Entry.TheVariants.{Chose, Made, Got}
use Rattle.definitions.specs.Honest.{allowed}
use Rattle.definitions.specs.Advance.{next_made}
use Rattle.session_log.specs.Writing.{written}
use Rattle.session_log.specs.Writing as W
use Rattle.peer_rules.specs.declared.arrivals.Arrival.{Arrival}
use Rattle.peer_rules.specs.declared.phases.Phase.{Phase}
use Rattle.peer_rules.specs.declared.phases.Phase.TheVariants.{Fresh, Logged, Running, KeepFault, PollFault}
use Rattle.peer_rules.specs.Entries.{entry_in, is_first, is_entry}
use Rattle.peer_rules.specs.Order.{is_frame}
use Rattle.loop_rules.specs.Views.{View}
use Rattle.loop_rules.specs.Handling.{with_waiting, sorted_out}

-- an own frame that the log allows now: one that is made before anything else is logged
abbrev pub own_next : View → Option TurnFrame
own_next v = next_made v.setting.game v.setting.me v.kept

-- whose turn an entry is: the own frames come first, and then a choice or the first frame that waits
abbrev pub is_next : View → Entry → Bool
is_next v (Made f) = is_frame (own_next v) f
is_next v (Chose t m n) = is_none (own_next v)
is_next v (Got q f) = is_none (own_next v) && is_first v.table.waiting q f

-- the entry may be logged next: the protocol allows it, and it is its turn
abbrev pub may_log : View → Entry → Bool
may_log v e = allowed v.setting.game v.setting.me v.kept e && is_next v e

-- the entry may be kept next: before the loop listens, those taken over in their order
abbrev pub may_keep_in : Phase → View → Entry → Bool
may_keep_in Fresh v e = false
may_keep_in Logged v e = is_entry (slice_get v.setting.over (length v.kept)) e
may_keep_in Running v e = may_log v e
may_keep_in KeepFault v e = false
may_keep_in PollFault v e = false

abbrev pub may_keep_as : View → List ℕ → Option Entry → Bool
may_keep_as v bytes None = false
may_keep_as v bytes (Some e) = bytes_eq bytes (written v.writer e) && may_keep_in v.phase v e

-- the bytes are those of an entry that may be kept next, behind the entries before it
abbrev pub may_keep : View → List ℕ → Bool
may_keep v bytes = may_keep_as v bytes (entry_in v.writer bytes)

-- a frame that is logged waits no more
abbrev pub waiting_behind : Entry → List Arrival → List Arrival
waiting_behind (Chose t m n) waiting = waiting
waiting_behind (Made f) waiting = waiting
waiting_behind (Got q f) waiting = drop 1 waiting

abbrev pub with_entry : Entry → View → View
with_entry e v = with_waiting (waiting_behind e v.table.waiting) (record v { kept = v.kept ++ e ∷ []; writer = W.after v.writer e })

abbrev pub kept_entry : View → Option Entry → View
kept_entry v None = v
kept_entry v (Some e) = sorted_out (with_entry e v)

-- behind the bytes of an entry
abbrev pub kept_on : View → List ℕ → View
kept_on v bytes = kept_entry v (entry_in v.writer bytes)
