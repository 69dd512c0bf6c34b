-- Strikes: what a player affects from where it stands, without a walk.
use Rattle.std.specs.Prelude.{ℕ, ◌+◌, List}
use Rattle.definitions.specs.declared.world.Cell.{Cell}
use Rattle.definitions.specs.World.{Game, seat_of}
use Rattle.definitions.specs.Sphere.{spread}

-- the cells of the grid, walls too, that a strike from one of these cells and its blast can come to
abbrev pub struck_from : Game → ℕ → List Cell → List Cell
struck_from game q cells = spread game.grid ((seat_of game q).reach + game.rules.blast) cells
