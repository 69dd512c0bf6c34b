-- What the sockets of a station in memory are seen as.
use Rattle.std.specs.Prelude.{Bool, true, false, ℕ, ◌+◌, ◌-◌, ◌<◌, ◌==◌, nat_lt, List, [], ◌∷◌, ◌++◌, length, drop, map, if◌then◌else◌}
use Rattle.std.specs.Prelude.{Option, Some, None, take, ◌||◌}
use Rattle.std.specs.List.{filter_map}
use Rattle.socket_station.specs.declared.answers.Ready.{Ready}
use Rattle.socket_station.specs.declared.answers.Ready.TheVariants.{Opened, Socket as Seems}
use Rattle.socket_station.specs.Standings.{opens}
use Rattle.socket_station.specs.declared.answers.Standing.{Standing}
use Rattle.socket_station.specs.declared.answers.Standing.TheVariants.{Fresh, Open, Closed as IsClosed}
use Rattle.memory_station.specs.declared.rows.Mark.{Mark}
use Rattle.memory_station.specs.declared.rows.Mark.TheVariants.{Closed, Finished, SeemsReady, Refused, Gave, GaveOdd}
use Rattle.memory_station.specs.declared.rows.Front.{Front}
use Rattle.memory_station.specs.declared.rows.Front.TheVariants as F

pub record HeldRow : Type 0 where
  pub number : ℕ
  -- Fresh, as long as no poll listed it
  pub standing : Standing
  -- the pieces to be read
  pub pieces : List (List ℕ)
  pub is_finished : Bool
  pub seems_ready : Bool
  -- its last write answered NotYet
  pub is_refused : Bool
  -- the number of its next write is even
  pub is_even : Bool

pub record HeldTable : Type 0 where
  pub rows : List HeldRow
  -- how many pieces and sockets were brought, and how many sockets may still come
  pub pieces : ℕ
  pub brought : ℕ
  pub row_room : ℕ

abbrev pub new_table : ℕ → HeldTable
new_table room = record { rows = []; pieces = 0; brought = 0; row_room = room }

abbrev pub new_row : ℕ → Standing → HeldRow
new_row n standing = record { number = n; standing = standing; pieces = []; is_finished = false; seems_ready = false; is_refused = false; is_even = false }

-- the row of a number, and one that nothing came on where there is none
abbrev pub row_in : List HeldRow → ℕ → HeldRow
row_in [] n = new_row n Fresh
row_in (row ∷ rows) n = if row.number == n then row else row_in rows n

-- the row of that number is changed
abbrev pub held_at : ℕ → (HeldRow → HeldRow) → List HeldRow → List HeldRow
held_at n f rows = map (λ row. if row.number == n then f row else row) rows

-- a socket that is closed, ends behind its pieces, or seems ready
abbrev pub closed : HeldRow → HeldRow
closed row = record row { standing = IsClosed }

abbrev pub finished : HeldRow → HeldRow
finished row = record row { is_finished = true }

abbrev pub seeming : HeldRow → HeldRow
seeming row = record row { seems_ready = true }

-- a socket whose last write answered NotYet, or gave bytes while writes are counted, or gave bytes before
abbrev pub refused : HeldRow → HeldRow
refused row = record row { is_refused = true; is_even = false }

abbrev pub gave_odd : HeldRow → HeldRow
gave_odd row = record row { is_refused = false; is_even = true }

abbrev pub gave : HeldRow → HeldRow
gave row = record row { is_refused = false }

abbrev pub marked : Mark → HeldRow → HeldRow
marked Closed row = closed row
marked Finished row = finished row
marked SeemsReady row = seeming row
marked Refused row = refused row
marked GaveOdd row = gave_odd row
marked Gave row = gave row

-- what stands at the front
abbrev pub front_with : List (List ℕ) → Bool → Front
front_with [] true = F.Ended
front_with [] false = F.NotYet
front_with (piece ∷ more) finished = F.Bytes (length piece)

abbrev pub front_of : HeldRow → Front
front_of row = front_with row.pieces row.is_finished

abbrev pub first_of_pieces : List (List ℕ) → List ℕ
first_of_pieces [] = []
first_of_pieces (piece ∷ more) = piece

abbrev pub front_bytes : HeldRow → List ℕ
front_bytes row = first_of_pieces row.pieces

-- the pieces behind so many bytes of the first
abbrev pub pieces_behind : ℕ → List (List ℕ) → List (List ℕ)
pieces_behind n [] = []
pieces_behind n (piece ∷ more) = if nat_lt n (length piece) then drop n piece ∷ more else more

abbrev pub taken : ℕ → HeldRow → HeldRow
taken n row = record row { pieces = pieces_behind n row.pieces }

abbrev pub with_piece : List ℕ → HeldRow → HeldRow
with_piece piece row = record row { pieces = row.pieces ++ piece ∷ [] }

-- one more socket, and one more piece
abbrev pub with_row : HeldRow → HeldTable → HeldTable
with_row row table = record table { rows = table.rows ++ row ∷ []; row_room = table.row_room - 1 }

abbrev pub brought_on : ℕ → List ℕ → HeldTable → HeldTable
brought_on s piece table = record table { rows = held_at s (with_piece piece) table.rows; pieces = table.pieces + 1 }

-- there is something to be read, or the socket seems ready, or its last write was refused
abbrev pub is_some_piece : List (List ℕ) → Bool
is_some_piece [] = false
is_some_piece (piece ∷ more) = true

abbrev pub is_wanted : HeldRow → Bool
is_wanted row = is_some_piece row.pieces || row.is_finished || row.seems_ready || row.is_refused

-- what a poll says of a row
abbrev pub ready_as : Standing → HeldRow → Option Ready
ready_as Fresh row = Some (Opened row.number)
ready_as Open row = if is_wanted row then Some (Seems row.number) else None
ready_as IsClosed row = None

abbrev pub ready_in : HeldRow → Option Ready
ready_in row = ready_as row.standing row

-- what a poll lists: at most 64 items, by rising number
abbrev pub listing : List HeldRow → List Ready
listing rows = take 64 (filter_map ready_in rows)

-- a row after a poll with that list
abbrev pub polled : List Ready → HeldRow → HeldRow
polled list row = record row { standing = if opens list row.number then Open else row.standing; seems_ready = false }

abbrev pub polled_table : List Ready → HeldTable → HeldTable
polled_table list table = record table { rows = map (polled list) table.rows }

-- A piece at the front has bytes.
abbrev pub IsSomeFront : Front → Type 0
IsSomeFront (F.Bytes n) = 0 < n
IsSomeFront F.NotYet = Unit {0}
IsSomeFront F.Ended = Unit {0}

-- one more socket that was brought
abbrev pub brought_row : ℕ → HeldTable → HeldTable
brought_row s table = record table { rows = table.rows ++ new_row s Fresh ∷ []; brought = table.brought + 1; row_room = table.row_room - 1 }

-- no write on the socket was counted
abbrev pub uncounted : HeldRow → HeldRow
uncounted row = record row { is_even = false }
