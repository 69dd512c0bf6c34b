-- Plans: what a pilot may tell of its choices.
use Rattle.std.specs.Prelude.{ℕ}
use Rattle.definitions.specs.declared.world.Move.{Move}
use Rattle.definitions.specs.declared.world.Track.{Track}

-- one move for each track and turn
abbrev pub Plan : Type 0
Plan = Track → (turn : ℕ) → Move
