-- What a history in memory is seen as.
use Rattle.std.specs.Prelude.{List}
use Rattle.socket_station.specs.Items.{Item}
use Rattle.history_book.specs.declared.room.Room.{Room}

-- the whole history, and the room that is left
pub record HeldBook : Type 0 where
  pub history : List Item
  pub room : Room
