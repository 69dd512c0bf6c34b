-- Nets: the sockets of a station, and what its calls ask the machine and change.
use Rattle.std.specs.Prelude.{◌≡◌, ◌⊎◌, ◌≤◌, ◌^◌, ◌-◌, ℕ, ◌+◌, max, Bool, true, false, List, [], ◌∷◌, ◌++◌, map, Option, Some, None, Result, Ok, Err, get_or, slice_set, is_ok, length, nat_lt, ◌&&◌, replicate}
use Rattle.socket_station.specs.declared.answers.Addr.{Addr}
use Rattle.socket_station.specs.declared.answers.Dial.{Dial}
use Rattle.socket_station.specs.declared.answers.Dial.TheVariants as D
use Rattle.socket_station.specs.declared.answers.Did.{Did}
use Rattle.socket_station.specs.declared.answers.Ready.{Ready}
use Rattle.socket_station.specs.declared.answers.Ready.TheVariants.{Opened}
use Rattle.socket_station.specs.declared.ready_list.TheConstants.{MOST_READY}
use Rattle.socket_station.specs.declared.answers.SocketRead.{SocketRead}
use Rattle.socket_station.specs.declared.answers.SocketWrite.{SocketWrite}
use Rattle.machine_host.specs.declared.faults.HostFault.{HostFault}
use Rattle.machine_host.specs.Asks.{Ask, Waited}
use Rattle.station_mio.specs.declared.pace.TheConstants.{PATIENCE, PAUSE}
use Rattle.station_mio.specs.declared.rows.TheConstants.{MOST_SOCKETS}
use Rattle.station_mio.specs.declared.backlog.Backlog.{Backlog}
use Rattle.station_mio.specs.declared.backlog.Backlog.TheVariants as B
use Rattle.station_mio.specs.Rows.{Stand, Due, Dialled, Up, closings_at, stand_in, without}
use Rattle.station_mio.specs.Asking.{Connects, ListensAt, Reads, Selects, Writes, after_read, after_write}
use Rattle.station_mio.specs.Accepting.{Comes, FindsNobody, IsRefused}
use Rattle.station_mio.specs.Dialling.{GoesOnAll}
use Rattle.station_mio.specs.Listing.{listed_all_lost, report_all, seen_of}
use Rattle.station_mio.specs.Waiting.{Ticks, after_by, patience_with}

pub record Net : Type 0 where
  -- what the machine was asked so far
  pub asks : List Ask
  -- whether the object stands that readiness is asked of, and whether it listens
  pub selects : Bool
  pub listens : Bool
  pub backlog : Backlog
  -- when each player may be dialled again
  pub due : List ℕ
  pub stands : List Stand
  -- the least number that no socket has had
  pub next : ℕ

-- the sockets of a station that asked for nothing but this yet: each player may be dialled at once
abbrev pub fresh : List Ask → Net
fresh asks = record { asks = asks; selects = false; listens = false; backlog = B.Empty; due = replicate 256 0; stands = []; next = 0 }

-- the greatest number that a socket may have is this less one
abbrev pub LAST_NUMBER : ℕ
LAST_NUMBER = 2 ^ 32 - 1

-- there is room for one more socket, and a number
abbrev pub has_room : Net → Bool
has_room a = nat_lt (length a.stands) MOST_SOCKETS && nat_lt a.next LAST_NUMBER

-- a socket of this number was read
pub record ReadsOn (n : ℕ) (read : SocketRead) (buf : List ℕ) (a b : Net) : Type 0 where
  pub asked : Reads (stand_in n a.stands) a.asks b.asks read buf
  pub same : b ≡ record a { asks = b.asks; stands = after_read read n a.stands }

-- a socket of this number was written
pub record WritesOn (n : ℕ) (write : SocketWrite) (bytes : List ℕ) (a b : Net) : Type 0 where
  pub asked : Writes (stand_in n a.stands) a.asks b.asks write bytes
  pub same : b ≡ record a { asks = b.asks; stands = after_write write n a.stands }

-- the socket of this number is gone
abbrev pub shut : ℕ → Net → Net
shut n a = record a { asks = a.asks ++ closings_at (stand_in n a.stands); stands = without n a.stands }

-- a new socket with the next number
abbrev pub added : Stand → Net → Net
added s a = record a { stands = a.stands ++ s ∷ []; next = a.next + 1 }

-- it listens at the address from now on, or that fails; without the object that readiness is asked
-- of nothing else is asked
abbrev pub ListensBy : (selects : Bool) → Addr → Result (Unit {0}) HostFault → (before after : List Ask) → Type 0
ListensBy true addr done before after = ListensAt addr (is_ok done) before after
ListensBy false addr done before after = (after ≡ before) × (is_ok done ≡ false)

pub record Listens (addr : Addr) (done : Result (Unit {0}) HostFault) (a b : Net) : Type 0 where
  pub middle : List Ask
  pub selects : Selects a.selects b.selects a.asks middle
  pub asked : ListensBy b.selects addr done middle b.asks
  pub same : b ≡ record a { asks = b.asks; selects = b.selects; listens = b.listens }
  pub listens : is_ok done ≡ true → b.listens ≡ true
  -- one that stood stays where a further one fails
  pub kept : is_ok done ≡ false → b.listens ≡ a.listens

-- a socket is dialled at once: it stands as dialled, or there is none
abbrev pub DialsAt : (now : ℕ) → Addr → Dial → (a b : Net) → Type 0
DialsAt now addr (D.Socket s) a b =
    (s ≡ a.next) × Connects s addr true a.asks b.asks × (b ≡ added (Dialled s (after_by now PATIENCE)) (record a { asks = b.asks }))
DialsAt now addr D.Failed a b = Connects a.next addr false a.asks b.asks × (b ≡ record a { asks = b.asks })

abbrev pub DialsBy : (selects : Bool) → (now : ℕ) → Addr → Dial → (a b : Net) → Type 0
DialsBy true now addr dial a b = DialsAt now addr dial a b
DialsBy false now addr dial a b = (dial ≡ D.Failed) × (b ≡ a)

abbrev pub DialsNow : (now : ℕ) → Addr → Dial → (a b : Net) → Type 0
DialsNow now addr dial a b =
    (middle : Net) × Selects a.selects middle.selects a.asks middle.asks ×
    (middle ≡ record a { asks = middle.asks; selects = middle.selects }) × DialsBy middle.selects now addr dial middle b

-- a socket that is due now is dialled; one that isn't waits for its time
abbrev pub DialsDue : (is_later : Bool) → (now due : ℕ) → Addr → Dial → (a b : Net) → Type 0
DialsDue true now due addr dial a b = (dial ≡ D.Socket a.next) × (b ≡ added (Due a.next addr due) a)
DialsDue false now due addr dial a b = DialsNow now addr dial a b

-- A dial of a player: its time is now, or a pause after its last one.
pub record DialsInTime (player : ℕ) (addr : Addr) (dial : Dial) (a b : Net) : Type 0 where
  pub now : ℕ
  pub ticked : List Ask
  pub ticks : Ticks a.asks ticked now
  pub due : ℕ
  pub due_is : due ≡ max (get_or a.due player 0) now
  pub dials : DialsDue (nat_lt now due) now due addr dial (record a { asks = ticked; due = slice_set a.due player (after_by due PAUSE) }) b

abbrev pub Dials : (has_room : Bool) → (player : ℕ) → Addr → Dial → (a b : Net) → Type 0
Dials false player addr dial a b = (dial ≡ D.Failed) × (b ≡ a)
Dials true player addr dial a b = DialsInTime player addr dial a b

-- One more socket was accepted, under the next number; or none, since there is no room, or nobody
-- waits, or one was refused.
abbrev pub AcceptsOne : Option ℕ → (a b : Net) → Type 0
AcceptsOne (Some s) a b =
    (s ≡ a.next) × (has_room a ≡ true) × (a.listens ≡ true) × Comes s a.asks b.asks × (b ≡ added (Up s) (record a { asks = b.asks }))
AcceptsOne None a b =
    ((has_room a ≡ false) × (b ≡ record a { backlog = B.Refused }))
    ⊎ (((a.listens ≡ false) × (b ≡ record a { backlog = B.Empty }))
    ⊎ ((FindsNobody a.next a.asks b.asks × (b ≡ record a { asks = b.asks; backlog = B.Empty }))
    ⊎ (IsRefused a.next a.asks b.asks × (b ≡ record a { asks = b.asks; backlog = B.Refused }))))

-- these sockets were accepted, one after the other
abbrev pub Come : (news : List ℕ) → (a b : Net) → Type 0
Come [] a b = b ≡ a
Come (s ∷ news) a b = (m : Net) × AcceptsOne (Some s) a m × Come news m b

-- no more are accepted now: the list is full, and others may wait, or one more wasn't accepted
abbrev pub StopsAt : (list : List Ready) → (a b : Net) → Type 0
StopsAt list a b =
    ((MOST_READY ≤ length list) × (b ≡ record a { backlog = B.Waiting })) ⊎ AcceptsOne None a b

-- The connections that wait are accepted and listed, unless none did when it was last looked for.
pub record AcceptsWaiting (list out : List Ready) (a b : Net) : Type 0 where
  pub news : List ℕ
  pub middle : Net
  pub come : Come news a middle
  pub listed : out ≡ list ++ map Opened news
  pub stops : StopsAt out middle b

abbrev pub AcceptsAll : Backlog → (list out : List Ready) → (a b : Net) → Type 0
AcceptsAll B.Empty list out a b = (out ≡ list) × (b ≡ a)
AcceptsAll B.Waiting list out a b = AcceptsWaiting list out a b
AcceptsAll B.Refused list out a b = AcceptsWaiting list out a b

-- The machine waited until something was ready, at most as long as the backlog and the sockets let it.
pub record Waits (answer : Result (List ℕ) HostFault) (a b : Net) : Type 0 where
  pub picked : List Ask
  pub selects : Selects a.selects true a.asks picked
  pub now : ℕ
  pub ticked : List Ask
  pub ticks : Ticks picked ticked now
  pub same : b ≡ record a { asks = ticked ++ Waited (patience_with a.backlog now a.stands) answer ∷ []; selects = true }

-- there is nothing that readiness could be asked of
pub record IsDeaf (a b : Net) : Type 0 where
  pub selects : Selects a.selects false a.asks b.asks
  pub same : b ≡ record a { asks = b.asks; selects = false }

abbrev pub WaitsFor : Result (Unit {0}) HostFault → (tokens : List ℕ) → (a b : Net) → Type 0
WaitsFor (Ok u) tokens a b = Waits (Ok tokens) a b
WaitsFor (Err fault) tokens a b = IsDeaf a b ⊎ ((f : HostFault) × Waits (Err f) a b)

-- all sockets go on that are due
pub record GoesOnIn (a b : Net) : Type 0 where
  pub now : ℕ
  pub ticked : List Ask
  pub ticks : Ticks a.asks ticked now
  pub goes : GoesOnAll now a.stands b.stands ticked b.asks
  pub same : b ≡ record a { asks = b.asks; stands = b.stands }

-- What is ready is listed; sockets that are due go on; those that are lost are listed too, and new ones.
pub record Lists (tokens : List ℕ) (list : List Ready) (a b : Net) : Type 0 where
  pub seen : Net
  pub ready : List Ready
  pub reported : seen_of seen.stands seen.backlog ready ≡ report_all (seen_of a.stands a.backlog []) tokens
  pub same : seen ≡ record a { stands = seen.stands; backlog = seen.backlog }
  pub gone : Net
  pub goes : GoesOnIn seen gone
  pub accepts : AcceptsAll gone.backlog (listed_all_lost ready gone.stands) list gone b

pub record PollsWell (list : List Ready) (a b : Net) : Type 0 where
  pub tokens : List ℕ
  pub waited : Net
  pub waits : Waits (Ok tokens) a waited
  pub lists : Lists tokens list waited b

-- a poll: where the machine couldn't be asked, or failed, it failed
abbrev pub Polls : Did → (list : List Ready) → (a b : Net) → Type 0
Polls Did.Done list a b = PollsWell list a b
Polls Did.Failed list a b = (list ≡ []) × (IsDeaf a b ⊎ ((f : HostFault) × Waits (Err f) a b))
