-- Agreeing: the one move of several logs' moves.
use Rattle.std.specs.Prelude.{List, [], ◌∷◌, Option, None, Some, if◌then◌else◌}
use Rattle.std.specs.List.{list_all}
use Rattle.definitions.specs.declared.world.Move.{Move}
use Rattle.definitions.specs.Logs.{move_eq}

-- the one move that these are, if they are one
abbrev pub one_move : List Move → Option Move
one_move [] = None
one_move (m ∷ ms) = if list_all (move_eq m) ms then Some m else None
