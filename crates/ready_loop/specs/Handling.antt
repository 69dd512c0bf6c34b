-- Handling: what stands after the calls that handle what came.
use Rattle.std.specs.Prelude.{◌≡◌, ℕ, ◌+◌, ◌<◌, ◌≤◌, ◌&&◌, nat_lt, Bool, true, false, not, List, [], ◌∷◌, ◌++◌, Option, Some, None, Result, Ok, Err, OnOk, length, map, slice_get, if◌then◌else◌}
use Rattle.std.specs.List.{list_all}
use Rattle.definitions.specs.Advance as A
use Rattle.definitions.specs.Advance.{next_made}
use Rattle.definitions.specs.Answers.{is_new}
use Rattle.definitions.specs.Held.{next_place}
use Rattle.definitions.specs.declared.answers.GotAnswer.{GotAnswer}
use Rattle.definitions.specs.declared.answers.GotAnswer.TheVariants as GA
use Rattle.definitions.specs.declared.logs.Entry.TheVariants.{Got}
use Rattle.definitions.specs.Findings.{is_clean}
use Rattle.socket_station.specs.Items.{Item, read_item}
use Rattle.socket_station.specs.Withins.{TakesWithin}
use Rattle.socket_station.specs.declared.answers.SocketRead.{SocketRead}
use Rattle.socket_lines.specs.declared.line.Line.{Line}
use Rattle.peer_rules.specs.declared.phases.Phase.TheVariants.{Running}
use Rattle.socket_lines.specs.Seats.{asks}
use Rattle.peer_rules.specs.declared.arrivals.Arrival.{Arrival}
use Rattle.loop_rules.specs.Tables.{Table, at_seat, seat_of, room_by_seat, room_on}
use Rattle.loop_rules.specs.Rules.{wants_read}
use Rattle.loop_rules.specs.Told.{IsTold}
use Rattle.loop_rules.specs.Handling.{IsOfOther}
use Rattle.socket_table.specs.Staying.{left_on}
use Rattle.ready_loop.specs.Hearers.{hearer_by}
use Rattle.definitions.specs.Lists.{EachIs}
use Rattle.ready_loop.specs.States.{LoopState, kept_of, view_of}
use Rattle.ready_loop.specs.Steps.{with_table, read_on}
use Rattle.ready_loop.specs.declared.stops.Stop.{Stop}
use Rattle.ready_loop.specs.Going.{Goes, IsPlayed, IsSteady}
use Rattle.ready_loop.specs.Stops.{StandsFaulty, StandsUnchosen}

-- the loop runs, and every entry is kept and no own frame left; or a keep failed
abbrev pub StandsPlayed : Result (Unit {0}) Stop → LoopState → Type 0
StandsPlayed (Ok u) m = (m.phase ≡ Running) × IsPlayed m
StandsPlayed (Err stop) m = StandsFaulty stop m

-- the own frames are made that the protocol lets be made, and kept; nothing else changes
pub record Advances (r : Result (Unit {0}) Stop) (before after : List Item) (l m : LoopState) : Type 0 where
  pub goes : Goes before after l m
  pub table : m.table ≡ l.table
  pub handled : m.handled ≡ l.handled
  pub synced : m.synced ≡ l.synced
  pub entries : m.peer.entries ≡ A.advance l.peer.game l.peer.me l.peer.entries
  pub stands : StandsPlayed r m

-- the own frames just made are kept; nothing else changes
pub record KeepsMade (r : Result (Unit {0}) Stop) (before after : List Item) (l m : LoopState) : Type 0 where
  pub goes : Goes before after l m
  pub table : m.table ≡ l.table
  pub handled : m.handled ≡ l.handled
  pub synced : m.synced ≡ l.synced
  pub peer : m.peer ≡ l.peer
  pub stands : StandsPlayed r m

-- nothing changes of the sockets, and as much may be read of each player
pub record KeepsLines (t u : Table) : Type 0 where
  pub lines : u.lines ≡ t.lines
  pub rooms : (q : ℕ) → room_by_seat (seat_of u q) ≡ room_by_seat (seat_of t q)

-- some frame waits, and the log has no finding
abbrev pub has_next : LoopState → Bool
has_next l = nat_lt l.handled (length l.table.waiting) && is_clean l.peer.game l.peer.entries

-- before the first frame that waits is handled, and behind it
pub record IsHearing (items : List Item) (l : LoopState) : Type 0 where
  pub told : IsTold items (view_of l)
  pub running : l.phase ≡ Running
  pub played : IsPlayed l

-- the player is to be asked for its next place
abbrev pub asked : (q : ℕ) → LoopState → LoopState
asked q l = with_table (at_seat q (asks (next_place l.peer.game l.peer.me l.peer.entries q)) l.table) l

-- the first frame that waits, of the player, made no entry and was answered so
abbrev pub passed_as : GotAnswer → (q : ℕ) → LoopState → LoopState
passed_as GA.Far q l = let m = asked q l in record m { handled = l.handled + 1 }
passed_as _ q l = record l { handled = l.handled + 1 }

-- the first frame that waits made an entry, which is not kept yet
pub record IsGot (l : LoopState) : Type 0 where
  pub running : l.phase ≡ Running
  pub arrival : Arrival
  pub first : slice_get l.table.waiting l.handled ≡ Some arrival
  pub entries : l.peer.entries ≡ kept_of l ++ Got arrival.player arrival.frame ∷ []
  pub kept : l.kept + 1 ≡ length l.peer.entries
  pub new : is_new l.peer.game l.peer.me (kept_of l) arrival.player arrival.frame ≡ true
  pub clean : is_clean l.peer.game (kept_of l) ≡ true
  pub made : next_made l.peer.game l.peer.me (kept_of l) ≡ None
  pub others : EachIs (IsOfOther l.peer.game l.peer.me) l.table.waiting

-- the first frame that waits is handled
pub record Hears (r : Result (Unit {0}) Stop) (before after : List Item) (l m : LoopState) : Type 0 where
  pub goes : Goes before after l m
  pub keeps : KeepsLines l.table m.table
  pub waiting : m.table.waiting ≡ l.table.waiting
  pub handled : OnOk r (m.handled ≡ l.handled + 1)
  pub stands : StandsPlayed r m

-- no frame waits any more
abbrev pub cleared : LoopState → LoopState
cleared l = record l { table = record l.table { waiting = [] }; handled = 0 }

-- Nothing is left to be handled, made or kept, and the log has no finding; or the loop stops, as it
-- has one, or as a call of the log failed.
abbrev pub StandsHeard : Result (Unit {0}) Stop → LoopState → Type 0
StandsHeard (Ok u) m = IsSteady m × (is_clean m.peer.game m.peer.entries ≡ true)
StandsHeard (Err stop) m = StandsUnchosen stop m

-- all frames that wait are handled, up to the first that makes a finding
pub record Handles (r : Result (Unit {0}) Stop) (before after : List Item) (l m : LoopState) : Type 0 where
  pub goes : Goes before after l m
  pub keeps : KeepsLines l.table m.table
  pub stands : StandsHeard r m

-- ---- reading

-- one call reads of the socket
pub record ReadsOnce (s : ℕ) (read : SocketRead) (before after : List Item) (l m : LoopState) : Type 0 where
  pub buf : List ℕ
  pub told : after ≡ before ++ read_item s read buf ∷ []
  pub within : TakesWithin read buf
  pub room : (x : Line) → (k : ℕ) → slice_get l.table.lines k ≡ Some x → x.socket ≡ s → length buf ≤ room_on l.table x
  pub state : m ≡ with_table (read_on (hearer_by l.peer) s read buf l.table) l

-- the sockets stand in the same order
abbrev pub SameSockets : Table → Table → Type 0
SameSockets t u = map (λ l. l.socket) u.lines ≡ map (λ l. l.socket) t.lines

-- no socket but these wants a read that wanted none before
abbrev pub Calm : (s : ℕ) → Table → Table → Type 0
Calm s t u = (k : ℕ) (x y : Line) → slice_get t.lines k ≡ Some x → slice_get u.lines k ≡ Some y → (x.socket ≡ s → ⊥) → wants_read u y ≡ true → wants_read t x ≡ true

-- the line at this place is to be read
abbrev pub WantsAt : Table → (place : ℕ) → Type 0
WantsAt t k = (l : Line) → slice_get t.lines k ≡ Some l → wants_read t l ≡ true

-- the line at this place is not to be read
abbrev pub WantsNone : Table → (place : ℕ) → Type 0
WantsNone t k = (l : Line) → slice_get t.lines k ≡ Some l → wants_read t l ≡ false

-- how many bytes may still be taken on the line at the place, and one more where it is to be read
abbrev pub left_by : Table → Option Line → ℕ
left_by t None = 0
left_by t (Some l) = if wants_read t l then left_on t l + 1 else 0

abbrev pub left_at : (place : ℕ) → LoopState → ℕ
left_at k l = left_by l.table (slice_get l.table.lines k)

-- before sockets are read: nothing is left to be handled, made or kept, and the log has no finding
pub record IsReadyToRead (items : List Item) (l : LoopState) : Type 0 where
  pub told : IsTold items (view_of l)
  pub steady : IsSteady l
  pub clean : is_clean l.peer.game l.peer.entries ≡ true

-- one read of the socket at the place, and what it brought handled
pub record Reads (r : Result (Unit {0}) Stop) (k s : ℕ) (before after : List Item) (l m : LoopState) : Type 0 where
  pub goes : Goes before after l m
  pub stands : StandsHeard r m
  pub sockets : SameSockets l.table m.table
  pub calm : Calm s l.table m.table
  pub less : left_at k m < left_at k l

-- the socket at the place is read until nothing is there
pub record ReadsOut (r : Result (Unit {0}) Stop) (k s : ℕ) (before after : List Item) (l m : LoopState) : Type 0 where
  pub goes : Goes before after l m
  pub stands : StandsHeard r m
  pub sockets : SameSockets l.table m.table
  pub calm : Calm s l.table m.table
  pub out : OnOk r (WantsNone m.table k)

-- each socket is read until nothing is there
pub record ReadsAll (r : Result (Unit {0}) Stop) (before after : List Item) (l m : LoopState) : Type 0 where
  pub goes : Goes before after l m
  pub stands : StandsHeard r m
  pub out : OnOk r (list_all (λ x. not (wants_read m.table x)) m.table.lines ≡ true)
