-- Causes: why a socket is shut, by the item that is the cause, or by what was read of it.
use Rattle.std.specs.Prelude.{◌≡◌, ◌⊎◌, ℕ, ◌+◌, ◌<◌, ◌≤◌, true, false, List, [], ◌∷◌, ◌++◌, Option, length}
use Rattle.definitions.specs.Logs.{player_of}
use Rattle.definition_laws.specs.Members.{Has}
use Rattle.wire_frames.specs.declared.frames.Frame.{Frame}
use Rattle.wire_frames.specs.declared.frames.Frame.TheVariants.{Hello, Turn, Want}
use Rattle.wire_frames.specs.Streams.{BadAt, stream_of}
use Rattle.socket_station.specs.declared.answers.Ready.{Ready}
use Rattle.socket_station.specs.declared.answers.Ready.TheVariants.{Opened, Socket as Seems}
use Rattle.socket_station.specs.Items.{Item, Polled, Took}
use Rattle.socket_station.specs.Moved.{taken_in}
use Rattle.socket_station.specs.Standings.{opens}
use Rattle.socket_lines.specs.declared.limits.TheConstants.{HELLO_BYTES, MOST_ACCEPTED}
use Rattle.socket_lines.specs.declared.seat.Seat.{Seat}
use Rattle.loop_rules.specs.Settings.{Setting}
use Rattle.loop_rules.specs.Tables.{room_by_seat, seat_of}
use Rattle.loop_rules.specs.Hearing.{lets_seat_name}
use Rattle.loop_rules.specs.After.{view_of}
use Rattle.loop_laws.specs.Sockets.{came_on, dialled_for}

-- how many sockets a list opens, and how many the polls of a history opened
abbrev pub opened_in : List Ready → ℕ
opened_in [] = 0
opened_in (Opened n ∷ list) = 1 + opened_in list
opened_in (Seems n ∷ list) = opened_in list

abbrev pub opened_by : Item → ℕ
opened_by (Polled list) = opened_in list
opened_by _ = 0

abbrev pub accepted_in : List Item → ℕ
accepted_in [] = 0
accepted_in (item ∷ items) = opened_by item + accepted_in items

-- the first frame that came is a HELLO of the player
abbrev pub Greets : (came : List Frame) → (q : ℕ) → Type 0
Greets came q = (id : List ℕ) × (pass : List ℕ) × (next : ℕ) × (more : List Frame) ×
    (came ≡ Hello id q pass next ∷ more)

-- A HELLO names nobody: it is of another session; or the seat of its player doesn't let it, as
-- there is none, or it wants another pass, or all that may be read of it was; or the socket was
-- dialled for another player.
abbrev pub IsRefused : Setting → Option Seat → (dialled : List ℕ) → (id : List ℕ) → (q : ℕ) →
    (pass : List ℕ) → Type 0
IsRefused s seat dialled id q pass = (id ≡ s.game.id → ⊥) ⊎
    ((lets_seat_name seat pass ≡ false) ⊎ ((p : ℕ) × Has dialled p × (p ≡ q → ⊥)))

-- The frame may not come on the socket after these. The first one has to be a HELLO that names its
-- player; after it come no further HELLO and no frame of another player.
abbrev pub MayNotCome : Setting → (seat : ℕ → Option Seat) → (dialled : List ℕ) →
    (front : List Frame) → Frame → Type 0
MayNotCome s seat dialled [] (Hello id q pass next) = IsRefused s (seat q) dialled id q pass
MayNotCome s seat dialled [] (Turn f) = Unit {0}
MayNotCome s seat dialled [] (Want place) = Unit {0}
MayNotCome s seat dialled (Hello id q pass next ∷ front) (Hello i p a n) = Unit {0}
MayNotCome s seat dialled (Hello id q pass next ∷ front) (Turn f) = player_of f ≡ q → ⊥
MayNotCome s seat dialled (Hello id q pass next ∷ front) (Want place) = ⊥
MayNotCome s seat dialled (Turn g ∷ front) f = ⊥
MayNotCome s seat dialled (Want place ∷ front) f = ⊥

-- one of the frames may not come after those before it
abbrev pub HasWrongFrame : Setting → (seat : ℕ → Option Seat) → (dialled : List ℕ) →
    List Frame → Type 0
HasWrongFrame s seat dialled came = (front : List Frame) × (f : Frame) × (back : List Frame) ×
    (came ≡ front ++ f ∷ back) × MayNotCome s seat dialled front f

-- a byte of the stream begins no frame
abbrev pub HasBadByte : (socket : ℕ) → List Item → Type 0
HasBadByte n items = (place : ℕ) × ((stream_of (taken_in n items)).ends ≡ BadAt place)

-- The item after these is why the socket is to be shut. A poll opened it, with which more sockets
-- were opened than are accepted; or bytes came on it with a bad byte, or with a frame that may not
-- come; or another socket was named as its player, which takes its place.
abbrev pub IsCause : Setting → (items : List Item) → Item → (socket : ℕ) → Type 0
IsCause s items (Polled list) n = (opens list n ≡ true) ×
    (MOST_ACCEPTED < accepted_in (items ++ Polled list ∷ []))
IsCause s items (Took m bytes) n =
    ((m ≡ n) × (HasBadByte n (items ++ Took m bytes ∷ []) ⊎
    HasWrongFrame s (seat_of (view_of s items).table) (dialled_for n items)
    (came_on n (items ++ Took m bytes ∷ [])))) ⊎
    ((m ≡ n → ⊥) × ((q : ℕ) × Greets (came_on m (items ++ Took m bytes ∷ [])) q ×
    Greets (came_on n items) q))
IsCause s items _ n = ⊥

-- such an item is among them
abbrev pub HasCause : Setting → List Item → (socket : ℕ) → Type 0
HasCause s items n = (front : List Item) × (item : Item) × (tail : List Item) ×
    (items ≡ front ++ item ∷ tail) × IsCause s front item n

-- All that may be read of the socket was: as many bytes as a HELLO has and no frame; or of the
-- player whose HELLO came first there, as much as may be read of one.
abbrev pub IsReadUp : Setting → List Item → (socket : ℕ) → Type 0
IsReadUp s items n =
    ((came_on n items ≡ []) × (HELLO_BYTES ≤ length (taken_in n items))) ⊎
    ((q : ℕ) × Greets (came_on n items) q × (room_by_seat (seat_of (view_of s items).table q) ≡ 0))
