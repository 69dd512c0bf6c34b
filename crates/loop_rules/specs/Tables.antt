-- Tables: the sockets and the other players of a loop, side by side.
use Rattle.std.specs.Prelude.{ℕ, Bool, ◌&&◌, ◌||◌, ◌==◌, List, Option, Some, None, map, find, if◌then◌else◌}
use Rattle.std.specs.List.{list_any}
use Rattle.socket_lines.specs.declared.line.Line.{Line}
use Rattle.socket_lines.specs.declared.seat.Seat.{Seat}
use Rattle.socket_lines.specs.Seats.{room_of}
use Rattle.socket_lines.specs.Lines.{serves, unnamed_room, player_of}
use Rattle.socket_lines.specs.Giving.{Desk}
use Rattle.peer_rules.specs.declared.arrivals.Arrival.{Arrival}

pub record Table : Type 0 where
  -- the sockets in the order in which they were opened; one that is closed stays until the next poll
  pub lines : List Line
  -- the other players
  pub seats : List Seat
  -- how many sockets were accepted, up to the most that are
  pub accepted : ℕ
  -- the frames of the last bytes taken that are not handled yet
  pub waiting : List Arrival

abbrev pub line_of : Table → ℕ → Option Line
line_of t s = find (λ l. l.socket == s) t.lines

abbrev pub seat_of : Table → ℕ → Option Seat
seat_of t q = find (λ c. c.link.player == q) t.seats

-- the line of a socket is changed
abbrev pub in_lines : ℕ → (Line → Line) → List Line → List Line
in_lines s change lines = map (λ l. if l.socket == s then change l else l) lines

abbrev pub at_line : ℕ → (Line → Line) → Table → Table
at_line s change t = record t { lines = in_lines s change t.lines }

-- the seat of a player is changed
abbrev pub in_seats : ℕ → (Seat → Seat) → List Seat → List Seat
in_seats q change seats = map (λ c. if c.link.player == q then change c else c) seats

abbrev pub at_seat : ℕ → (Seat → Seat) → Table → Table
at_seat q change t = record t { seats = in_seats q change t.seats }

-- an open socket was dialled for the player or is named so
abbrev pub is_served : Table → ℕ → Bool
is_served t q = list_any (serves q) t.lines

-- the seat of the player whose the line is
abbrev pub seat_by : Table → Option ℕ → Option Seat
seat_by t None = None
seat_by t (Some q) = seat_of t q

abbrev pub desk_with : Line → Option Seat → Option Desk
desk_with l None = None
desk_with l (Some c) = Some (record { line = l; seat = c })

-- the line beside the seat of its player; nothing is ever due on one without a player
abbrev pub desk_of : Table → Line → Option Desk
desk_of t l = desk_with l (seat_by t (player_of l))

-- a line and a seat are put back
abbrev pub with_desk : Table → Desk → Table
with_desk t d = at_seat d.seat.link.player (λ _. d.seat) (at_line d.line.socket (λ _. d.line) t)

-- ---- limits

abbrev pub room_by_seat : Option Seat → ℕ
room_by_seat None = 0
room_by_seat (Some c) = room_of c

abbrev pub room_by : Table → Line → Option ℕ → ℕ
room_by t l None = unnamed_room l
room_by t l (Some q) = room_by_seat (seat_of t q)

-- how many bytes may be taken on a socket: before its HELLO as many as that has, then what is left of its player's
abbrev pub room_on : Table → Line → ℕ
room_on t l = room_by t l l.name

-- a rule or a limit asks to shut the socket
abbrev pub asks_shut : Table → Line → Bool
asks_shut t l = l.is_open && (l.is_wrong || (room_on t l == 0))
