-- Beginnings: what a peer goes on from.
use Rattle.std.specs.Prelude.{ℕ, List, Option}
use Rattle.definitions.specs.declared.logs.Entry.{Entry}
use Rattle.definitions.specs.World.{Game}

-- what a run begins with: a session, the log of its player, and the byte from which on the log's file is dropped, if it is
pub record Beginning : Type 0 where
  pub game : Game
  pub first : List Entry
  pub dropped : Option ℕ
