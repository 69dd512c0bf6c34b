-- How the rows and pieces in memory are the sockets that are seen.
use Rattle.std.specs.Prelude.{true, false, ◌≡◌, ℕ, ◌+◌, ◌^◌, ◌<◌, ◌≤◌, ◌==◌, List, [], ◌∷◌, length, drop, Some, slice_get, if◌then◌else◌, vec_capacity}
use Rattle.socket_station.specs.declared.answers.Standing.TheVariants.{Open, Closed as IsClosed}
use Rattle.socket_station.specs.declared.answers.Ready.{Ready}
use Rattle.socket_station.specs.Standings.{opens}
use Rattle.memory_station.specs.declared.rows.Row.{Row}
use Rattle.memory_station.specs.declared.rows.Piece.{Piece}
use Rattle.memory_station.specs.declared.rows.Mark.{Mark}
use Rattle.memory_station.specs.declared.rows.Mark.TheVariants.{Closed, Finished, SeemsReady, Refused, Gave, GaveOdd}
use Rattle.memory_station.specs.declared.table.Table.TheInside.{Inside}
use Rattle.memory_station.specs.HeldRows.{HeldRow}

-- the bytes of the pieces of a socket
abbrev pub pieces_at : ℕ → List Piece → List (List ℕ)
pieces_at n [] = []
pieces_at n (p ∷ more) = if p.socket == n then p.bytes ∷ pieces_at n more else pieces_at n more

-- the pieces without so many bytes of the first
abbrev pub cut_front : ℕ → List (List ℕ) → List (List ℕ)
cut_front at [] = []
cut_front at (piece ∷ more) = drop at piece ∷ more

abbrev pub raw_pieces : List Piece → Row → List (List ℕ)
raw_pieces pieces row = pieces_at row.number (drop row.from pieces)

abbrev pub held_row : List Piece → Row → HeldRow
held_row pieces row = record { number = row.number; standing = row.standing; pieces = cut_front row.at (raw_pieces pieces row); is_finished = row.is_finished; seems_ready = row.seems_ready; is_refused = row.is_refused; is_even = row.is_even }

abbrev pub row_marked : Mark → Row → Row
row_marked Closed row = record row { standing = IsClosed }
row_marked Finished row = record row { is_finished = true }
row_marked SeemsReady row = record row { seems_ready = true }
row_marked Refused row = record row { is_refused = true; is_even = false }
row_marked Gave row = record row { is_refused = false }
row_marked GaveOdd row = record row { is_refused = false; is_even = true }

abbrev pub row_uncounted : Row → Row
row_uncounted row = record row { is_even = false }

abbrev pub polled_row : List Ready → Row → Row
polled_row list row = record row { standing = if opens list row.number then Open else row.standing; seems_ready = false }

-- The piece at this place is the first of the socket from there on.
pub record IsFront (pieces : List Piece) (n from k : ℕ) : Type 0 where
  pub piece : Piece
  pub there : slice_get pieces k ≡ Some piece
  pub behind : from ≤ k
  pub split : pieces_at n (drop from pieces) ≡ piece.bytes ∷ pieces_at n (drop (k + 1) pieces)

-- No piece is empty.
abbrev pub AreFull : List (List ℕ) → Type 0
AreFull [] = Unit {0}
AreFull (piece ∷ more) = (0 < length piece) × AreFull more

-- The first piece has bytes behind that place.
abbrev pub IsInside : ℕ → List (List ℕ) → Type 0
IsInside at [] = at ≡ 0
IsInside at (piece ∷ more) = (at < length piece) × AreFull more

pub record IsRowSound (pieces : List Piece) (row : Row) : Type 0 where
  pub from : row.from ≤ length pieces
  pub inside : IsInside row.at (raw_pieces pieces row)

abbrev pub AreSound : List Piece → List Row → Type 0
AreSound pieces [] = Unit {0}
AreSound pieces (row ∷ rows) = IsRowSound pieces row × AreSound pieces rows

-- These have the numbers from this one on, by what says the number of each.
abbrev pub CountFrom : {X : Type 0} → (X → ℕ) → ℕ → List X → Type 0
CountFrom number n [] = Unit {0}
CountFrom number n (x ∷ xs) = (number x ≡ n) × CountFrom number (n + 1) xs

-- So the rows do.
abbrev pub AreNumbered : ℕ → List Row → Type 0
AreNumbered n rows = CountFrom (λ (row : Row). row.number) n rows

pub record IsSound (b : Inside) : Type 0 where
  pub numbered : AreNumbered 0 b.rows.items
  pub sound : AreSound b.pieces.items b.rows.items
  pub few : length b.rows.items + b.row_room < 2 ^ 32
  pub rows : length b.rows.items + b.row_room ≤ vec_capacity b.rows
  pub pieces : 65536 ≤ vec_capacity b.pieces
