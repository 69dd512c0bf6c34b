-- Laws on openings: different ones have different bytes.
use Rattle.std.specs.Prelude.{◌≡◌, ℕ, List}
use Rattle.definitions.specs.declared.openings.Opening.{Opening}
use Rattle.definitions.specs.Openings.{opening, FitsOpening}

-- openings with the same bytes are the same
abbrev pub OpeningsDiffer : Type 0
OpeningsDiffer = (id : List ℕ) (a b : Opening) → FitsOpening a → FitsOpening b → opening id a ≡ opening id b → a ≡ b
