-- Verdicts: what becomes of a player that makes a move.
use Rattle.std.specs.Prelude.{ℕ, Option, Some, None, Result, Ok, Err}
use Rattle.definitions.specs.declared.world.Move.{Move}
use Rattle.definitions.specs.declared.world.Track.{Track}
use Rattle.definitions.specs.declared.world.MoveFault.{MoveFault}
use Rattle.definitions.specs.World.{Game}
use Rattle.definitions.specs.Moves.{move_fault, next_track}

-- the track after the move, or the fault, if there is one
abbrev pub judged : Game → Track → Move → Option MoveFault → Result Track MoveFault
judged game track mv None = Ok (next_track game track mv)
judged game track mv (Some fault) = Err fault

-- the player's track after the move, or why the move isn't legal from its track
abbrev pub verdict : Game → ℕ → Track → Move → Result Track MoveFault
verdict game q track mv = judged game track mv (move_fault game q track mv)
