-- Steps: the protocol's steps that a log tells.
use Rattle.std.specs.Prelude.{List, [], ◌∷◌}
use Rattle.definitions.specs.declared.logs.Entry.{Entry}
use Rattle.definitions.specs.declared.logs.Entry.TheVariants.{Chose, Made, Got}
use Rattle.definitions.specs.Steps.{LogStep, Chooses, Comes}

-- the steps that entries tell: the choices, and the frames that came; own frames are no steps,
-- since the protocol makes them by itself
abbrev pub steps_told : List Entry → List LogStep
steps_told [] = []
steps_told (Chose t m n ∷ es) = Chooses m n ∷ steps_told es
steps_told (Made f ∷ es) = steps_told es
steps_told (Got q f ∷ es) = Comes q f ∷ steps_told es
