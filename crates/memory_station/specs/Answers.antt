-- What a station in memory answers, and what it makes of its sockets.
use Rattle.std.specs.Prelude.{Bool, true, false, ◌≡◌, ◌<◌, ◌≤◌, ◌==◌, ℕ, min, take, length, List, Option, Some, None, unwrap_or, if◌then◌else◌}
use Rattle.socket_station.specs.declared.answers.Did.{Did}
use Rattle.socket_station.specs.declared.answers.Did.TheVariants.{Done, Failed as DidFailed}
use Rattle.socket_station.specs.declared.answers.Dial.{Dial}
use Rattle.socket_station.specs.declared.answers.Dial.TheVariants.{Socket, Failed as DialFailed}
use Rattle.socket_station.specs.declared.answers.SocketRead.{SocketRead}
use Rattle.socket_station.specs.declared.answers.SocketRead.TheVariants as R
use Rattle.socket_station.specs.declared.answers.SocketWrite.{SocketWrite}
use Rattle.socket_station.specs.declared.answers.SocketWrite.TheVariants as W
use Rattle.socket_station.specs.declared.answers.Standing.TheVariants.{Fresh, Open}
use Rattle.memory_station.specs.declared.rows.Front.{Front}
use Rattle.memory_station.specs.declared.rows.Front.TheVariants as F
use Rattle.memory_station.specs.declared.rows.Mark.{Mark}
use Rattle.memory_station.specs.declared.rows.Mark.TheVariants as M
use Rattle.memory_station.specs.HeldRows.{HeldRow, HeldTable, held_at, row_in, marked, closed, taken, front_of, front_bytes, with_row, new_row}

-- the table with a change of one socket
abbrev pub at_socket : ℕ → (HeldRow → HeldRow) → HeldTable → HeldTable
at_socket s f table = record table { rows = held_at s f table.rows }

-- a call that goes on does what it was asked
abbrev pub did_by : (goes : Bool) → Did
did_by goes = if goes then Done else DidFailed

-- a dial opens the socket of the next number
abbrev pub dial_answer : (goes : Bool) → HeldTable → Dial
dial_answer goes table = if goes then Socket (length table.rows) else DialFailed

abbrev pub dial_table : Dial → HeldTable → HeldTable
dial_table (Socket s) table = with_row (new_row s Open) table
dial_table DialFailed table = table

-- whether a dial opened the socket of that number
abbrev pub is_dialled : Dial → ℕ → Bool
is_dialled (Socket s) n = s == n
is_dialled DialFailed n = false

-- The number of the socket that a dial opened was never used.
abbrev pub IsFreshDial : Dial → HeldTable → Type 0
IsFreshDial (Socket s) table = (row_in table.rows s).standing ≡ Fresh
IsFreshDial DialFailed table = Unit {0}

-- how many bytes a read takes
abbrev pub need_of : Front → (room : ℕ) → ℕ
need_of (F.Bytes n) room = min n room
need_of F.NotYet room = 0
need_of F.Ended room = 0

-- a read takes as much of the front of the next piece as fits; behind the last piece it answers Ended where the socket is finished, and NotYet where it isn't
abbrev pub read_by : Front → (room : ℕ) → SocketRead
read_by (F.Bytes n) room = R.Took (min n room)
read_by F.NotYet room = R.NotYet
read_by F.Ended room = R.Ended

abbrev pub read_answer : (goes : Bool) → HeldRow → (room : ℕ) → SocketRead
read_answer goes row room = if goes then read_by (front_of row) room else R.Failed

-- The bytes taken are the first of the next piece.
abbrev pub TakesFront : SocketRead → (buf : List ℕ) → HeldRow → Type 0
TakesFront (R.Took n) buf row = take n buf ≡ take n (front_bytes row)
TakesFront R.NotYet buf row = Unit {0}
TakesFront R.Ended buf row = Unit {0}
TakesFront R.Failed buf row = Unit {0}

-- a read takes its bytes off the front; an end and a failure close the socket
abbrev pub read_table : ℕ → SocketRead → HeldTable → HeldTable
read_table s (R.Took n) table = at_socket s (taken n) table
read_table s R.NotYet table = table
read_table s R.Ended table = at_socket s closed table
read_table s R.Failed table = at_socket s closed table

-- A limit of writes is at least one byte.
abbrev pub IsLimit : Option ℕ → Type 0
IsLimit None = Unit {0}
IsLimit (Some most) = 0 < most

-- how many bytes a write gives, and none where it answers NotYet: it does where its number is even among the writes since a limit was set
abbrev pub write_count : Option ℕ → (is_even : Bool) → (len : ℕ) → Option ℕ
write_count None even len = Some len
write_count (Some most) true len = None
write_count (Some most) false len = Some (min len most)

-- the room that a write asks for
abbrev pub need_by : Option ℕ → (is_even : Bool) → (len : ℕ) → ℕ
need_by most even len = unwrap_or (write_count most even len) 0

abbrev pub write_need : Option ℕ → HeldRow → (len : ℕ) → ℕ
write_need most row len = need_by most row.is_even len

abbrev pub gives : Option ℕ → SocketWrite
gives None = W.NotYet
gives (Some n) = W.Gave n

abbrev pub write_by : (goes : Bool) → Option ℕ → (is_even : Bool) → (len : ℕ) → SocketWrite
write_by goes most even len = if goes then gives (write_count most even len) else W.Failed

abbrev pub write_answer : (goes : Bool) → Option ℕ → HeldRow → (len : ℕ) → SocketWrite
write_answer goes most row len = write_by goes most row.is_even len

-- At least one byte was given, and no more than so many.
abbrev pub IsGiven : SocketWrite → ℕ → Type 0
IsGiven (W.Gave n) len = (0 < n) × (n ≤ len)
IsGiven W.NotYet len = Unit {0}
IsGiven W.Failed len = Unit {0}

-- what a write makes of its socket
abbrev pub gave_mark : Option ℕ → Mark
gave_mark None = M.Gave
gave_mark (Some most) = M.GaveOdd

abbrev pub write_mark : SocketWrite → Option ℕ → Mark
write_mark (W.Gave n) most = gave_mark most
write_mark W.NotYet most = M.Refused
write_mark W.Failed most = M.Closed

abbrev pub write_table : Option ℕ → ℕ → SocketWrite → HeldTable → HeldTable
write_table most s write table = at_socket s (marked (write_mark write most)) table
