-- What a station in memory keeps.
use Rattle.std.specs.Prelude.{ℕ, ◌+◌, ◌≤◌, ◌≡◌}
use Rattle.socket_station.specs.Standings.{standing_in}
use Rattle.memory_station.specs.declared.memory.MemoryStation.TheInside.{Inside}
use Rattle.memory_station.specs.Answers.{IsLimit}
use Rattle.history_book.specs.HeldBooks.{HeldBook}
use Rattle.memory_station.specs.HeldRows.{HeldTable, row_in}

-- The sockets stand as the history says, and there is room for each that may come.
pub record IsTied (book : HeldBook) (table : HeldTable) : Type 0 where
  pub standings : (n : ℕ) → standing_in book.history n ≡ (row_in table.rows n).standing
  pub rows : book.room.items + 512 ≤ table.row_room + table.brought
  pub brought : table.brought ≤ 512

pub record IsReady (b : Inside) : Type 0 where
  pub tied : IsTied b.book b.table
  pub most : IsLimit b.most
