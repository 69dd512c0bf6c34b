-- What the parts of a text that the code holds are in the words of its definitions.
use Rattle.std.specs.Prelude.{[]}
use Rattle.definitions.specs.World.{Ground}
use Rattle.grid_world.specs.declared.parts.Sides.{Sides}
use Rattle.grid_world.specs.declared.parts.Head as code
use Rattle.grid_world.specs.Sessions.{rules_of}
use Rattle.grid_world.specs.Reading.{Head}

-- a grid of these sides, still without walls
abbrev pub bare : Sides → Ground
bare s = record { width = s.width; height = s.height; walls = [] }

-- what the lines before those of the players say
abbrev pub head_of : code.Head → Head
head_of h = record { version = h.version; grid = bare h.sides; rules = rules_of h.rules; turns = h.turns; ahead = h.ahead; players = h.players }
