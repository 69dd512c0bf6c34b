-- Settings: what a loop is given before its first call.
use Rattle.std.specs.Prelude.{ℕ, ◌*◌, List}
use Rattle.definitions.specs.declared.logs.Entry.{Entry}
use Rattle.definitions.specs.World.{Game}
use Rattle.rosters.specs.Rosters.{Neighbours}
use Rattle.socket_lines.specs.Giving.{Speaker}

pub record Setting : Type 0 where
  pub game : Game
  -- the player whose loop it is
  pub me : ℕ
  -- where it and the others are, and their passes
  pub roster : Neighbours
  -- the entries that are taken over from an older log
  pub over : List Entry

-- who speaks on the sockets
abbrev pub speaker_of : Setting → Speaker
speaker_of s = record { id = s.game.id; me = s.me }

-- no place of a player's stream is above this one
abbrev pub last_place : Setting → ℕ
last_place s = 2 * s.game.turns
