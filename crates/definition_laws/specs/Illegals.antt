-- Illegals: reveals whose move isn't legal, by the track before it.
use Rattle.std.specs.Prelude.{ℕ, Bool, false, not}
use Rattle.definitions.specs.declared.world.Track.{Track}
use Rattle.definitions.specs.declared.frames.TurnFrame.{TurnFrame}
use Rattle.definitions.specs.declared.frames.TurnFrame.TheVariants.{Commit, Reveal}
use Rattle.definitions.specs.World.{Game}
use Rattle.definitions.specs.Moves.{is_legal}

-- the reveal's move is not legal from the track
abbrev pub is_illegal_from : Game → ℕ → Track → TurnFrame → Bool
is_illegal_from game q track (Commit p u d) = false
is_illegal_from game q track (Reveal p u m n) = not (is_legal game q track m)
