-- Staying: what stays as it was where one table came about from another, and how much a loop may still take or give on a line.
use Rattle.std.specs.Prelude.{◌≡◌, ℕ, ◌+◌, ◌-◌, ◌*◌, ◌≤◌, true, List, Option, Some, None, length, unwrap_or, if◌then◌else◌}
use Rattle.plain_lemmas.proofs.Pairs.{Pairs}
use Rattle.definitions.specs.Lists.{is_empty}
use Rattle.socket_lines.specs.declared.limits.TheConstants.{MOST_BYTES}
use Rattle.socket_lines.specs.declared.line.Line.{Line}
use Rattle.socket_lines.specs.declared.seat.Seat.{Seat}
use Rattle.socket_lines.specs.Giving.{Desk}
use Rattle.loop_rules.specs.Tables.{Table, seat_of, room_by_seat, room_on}

-- ---- seats

-- the same player's seat, which is asked for places up to the same one, and was dialled as before
pub record SameSeat (c d : Seat) : Type 0 where
  pub link : d.link ≡ c.link
  pub most : d.asks.most ≡ c.asks.most
  pub dialled : d.is_dialled ≡ c.is_dialled

-- seat by seat
abbrev pub SeatsSame : List Seat → List Seat → Type 0
SeatsSame cs ds = Pairs SameSeat cs ds

-- no more may be read of any player
abbrev pub Rooms : Table → Table → Type 0
Rooms t u = (q : ℕ) → room_by_seat (seat_of u q) ≤ room_by_seat (seat_of t q)

-- ---- taking

-- a line without a name may still get that of a player of whom nothing was read
abbrev pub more_unnamed : Option ℕ → ℕ
more_unnamed None = MOST_BYTES + 1
more_unnamed (Some q) = 0

-- how many bytes may still be taken on the line, at most; each read lessens it
abbrev pub left_on : Table → Line → ℕ
left_on t l = room_on t l + more_unnamed l.name

-- ---- giving and closing

-- the same socket, of which as much was read, and which is open only where it was
pub record MilderLine (l m : Line) : Type 0 where
  pub socket : m.socket ≡ l.socket
  pub dialled : m.dialled ≡ l.dialled
  pub name : m.name ≡ l.name
  pub taken : m.taken ≡ l.taken
  pub quiet : m.is_quiet ≡ l.is_quiet
  pub wrong : m.is_wrong ≡ l.is_wrong
  pub opened : m.is_open ≡ true → l.is_open ≡ true

-- line by line, and as much may be read of each player
pub record Milder (t u : Table) : Type 0 where
  pub lines : Pairs MilderLine t.lines u.lines
  pub rooms : (q : ℕ) → room_by_seat (seat_of u q) ≡ room_by_seat (seat_of t q)

-- ---- how much is to be given on a line

abbrev pub hello_count : Option ℕ → ℕ
hello_count None = 0
hello_count (Some next) = 1

-- of so many own frames those from the cursor on; a WANT that came while one was given in part may send it back to the first
abbrev pub frames_from : (made cursor : ℕ) → (jump : Option ℕ) → ℕ
frames_from made cursor None = made - cursor
frames_from made cursor (Some place) = (made - cursor) + (made + 1)

-- those that follow what is begun
abbrev pub frames_behind : (made : ℕ) → (sending : Option ℕ) → (cursor : ℕ) → (jump : Option ℕ) → ℕ
frames_behind made None cursor jump = frames_from made cursor jump
frames_behind made (Some place) cursor jump = made - unwrap_or jump (place + 1)

-- where the own frame is still called begun of which nothing is left, the one at the cursor may be begun as well
abbrev pub frames_again : (made : ℕ) → (sending : Option ℕ) → (cursor : ℕ) → (jump : Option ℕ) → ℕ
frames_again made None cursor jump = 0
frames_again made (Some place) cursor jump = frames_from made cursor jump

abbrev pub frames_on : (made : ℕ) → Line → ℕ
frames_on made l = frames_behind made l.sending l.cursor l.jump + (if is_empty l.unsent then frames_again made l.sending l.cursor l.jump else 0)

-- The work on a line, where so many own frames are made: each write that gives bytes lessens it. A frame that is to be begun counts more than
-- the bytes that it leaves.
abbrev pub work_on : (made : ℕ) → Desk → ℕ
work_on made d = length d.line.unsent + 64 * (hello_count d.line.hello + length d.seat.asks.due + frames_on made d.line)
