-- Sound: what holds of every table.
use Rattle.std.specs.Prelude.{◌≤◌, ◌<◌, ◌+◌, ℕ, Bool, ◌&&◌, ◌==◌, not, List, Option, Some, None, find, length, is_none}
use Rattle.std.specs.List.{count_by}
use Rattle.definitions.specs.Lists.{EachIs}
use Rattle.socket_lines.specs.declared.limits.TheConstants.{HELLO_BYTES, MOST_ACCEPTED, MOST_BYTES}
use Rattle.socket_lines.specs.declared.line.Line.{Line}
use Rattle.socket_lines.specs.declared.seat.Seat.{Seat}
use Rattle.socket_lines.specs.Lines.{is_player}
use Rattle.socket_lines.specs.Giving.{IsPlace}
use Rattle.loop_rules.specs.Tables.{Table}
use Rattle.loop_rules.specs.Told.{Differ, DiffersBy}
use Rattle.socket_table.specs.declared.table.TheConstants.{MOST_LINES, MOST_TAKEN}

-- how many bytes count as read of the player, if there is one
abbrev pub spent_by : Option Seat → ℕ
spent_by None = 0
spent_by (Some c) = c.spent

abbrev pub spent_of : List Seat → Option ℕ → ℕ
spent_of seats None = 0
spent_of seats (Some q) = spent_by (find (λ c. c.link.player == q) seats)

-- the number of a player has one byte
abbrev pub IsByte : Option ℕ → Type 0
IsByte None = Unit {0}
IsByte (Some q) = q < 256

-- Before a line has a name no more is taken than a HELLO has, and what was read of it counts as taken before, or as its player's. Behind the
-- place that goes out there is another one.
pub record IsFitLine (seats : List Seat) (l : Line) : Type 0 where
  pub taken : l.taken ≤ HELLO_BYTES
  pub read : l.reader.place ≤ l.taken + spent_of seats l.name
  pub sending : IsPlace l.sending
  pub dialled : IsByte l.dialled

-- a HELLO may lift what is spent past the most, by less than it has
abbrev pub IsFitSeat : Seat → Type 0
IsFitSeat c = c.spent ≤ MOST_BYTES + HELLO_BYTES

-- an open socket that was accepted and is not to be shut
abbrev pub is_fine : Line → Bool
is_fine l = l.is_open && is_none l.dialled && not l.is_wrong

-- an open socket that was dialled for the player
abbrev pub is_dialled_for : ℕ → Line → Bool
is_dialled_for q l = l.is_open && is_player l.dialled q

-- There is room for all lines that may come until the next poll: at that one no more stay than are accepted at most, and one that was
-- dialled for each player; a poll lists so many, and each player is dialled once.
pub record HasLineRoom (t : Table) (line_room : ℕ) : Type 0 where
  pub accepted : t.accepted ≤ MOST_ACCEPTED
  pub fine : count_by is_fine t.lines ≤ t.accepted
  pub dialled : (q : ℕ) → count_by (is_dialled_for q) t.lines ≤ 1
  pub few : length t.lines ≤ MOST_LINES + count_by (λ c. c.is_dialled) t.seats
  pub room : MOST_LINES + length t.seats ≤ line_room

pub record IsSound (t : Table) (line_room frame_room : ℕ) : Type 0 where
  pub sockets : Differ t.lines
  pub players : DiffersBy (λ c. c.link.player) t.seats
  pub lines : EachIs (IsFitLine t.seats) t.lines
  pub seats : EachIs IsFitSeat t.seats
  pub room : HasLineRoom t line_room
  pub waiting : length t.waiting ≤ MOST_TAKEN
  pub frames : MOST_TAKEN ≤ frame_room
