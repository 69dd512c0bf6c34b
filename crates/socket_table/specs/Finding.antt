-- Finding: where a line or a seat stands in its table.
use Rattle.std.specs.Prelude.{◌≡◌, ℕ, Bool, true, false, ◌==◌, List, Option, Some, None, find, slice_get}
use Rattle.socket_lines.specs.declared.line.Line.{Line}
use Rattle.socket_lines.specs.declared.seat.Seat.{Seat}
use Rattle.socket_lines.specs.Seats.{is_spent}
use Rattle.loop_rules.specs.Tables.{Table, seat_of, seat_by}

-- the line at this place is of this socket
abbrev pub IsAt : Table → (place socket : ℕ) → Type 0
IsAt t k s = (l : Line) × (slice_get t.lines k ≡ Some l) × (l.socket ≡ s)

-- the seat of this player is at the place, or there is none
abbrev pub IsSeatAt : List Seat → (player : ℕ) → Option ℕ → Type 0
IsSeatAt seats q None = find (λ c. c.link.player == q) seats ≡ None
IsSeatAt seats q (Some k) = (c : Seat) × (slice_get seats k ≡ Some c) × (c.link.player ≡ q)

-- the HELLO names the socket, and the player's seat is at the place; or it doesn't
abbrev pub IsNaming : Table → (names : Bool) → (player : ℕ) → Option ℕ → Type 0
IsNaming t names q None = names ≡ false
IsNaming t names q (Some k) = (names ≡ true) × (c : Seat) × (slice_get t.seats k ≡ Some c) × (c.link.player ≡ q) × (is_spent c ≡ false)

-- the name is that of the player whose seat is at the place, or there is no such seat
abbrev pub IsNamedSeat : Table → (name : Option ℕ) → Option (ℕ × ℕ) → Type 0
IsNamedSeat t None found = found ≡ None
IsNamedSeat t (Some q) None = seat_of t q ≡ None
IsNamedSeat t (Some q) (Some f) = (f.1 ≡ q) × IsSeatAt t.seats q (Some f.0) × (seat_of t q ≡ slice_get t.seats f.0)

-- the seat of the line's player is at the place, or it has none
abbrev pub IsDeskSeat : Table → (player : Option ℕ) → Option ℕ → Type 0
IsDeskSeat t player None = seat_by t player ≡ None
IsDeskSeat t player (Some k) = (c : Seat) × (slice_get t.seats k ≡ Some c) × (player ≡ Some c.link.player) × (seat_by t player ≡ Some c)
