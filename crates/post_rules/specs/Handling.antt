-- Handling: which frames that wait make an entry.
use Rattle.std.specs.Prelude.{ℕ, Bool, List, [], ◌∷◌, if◌then◌else◌}
use Rattle.definitions.specs.World.{Game}
use Rattle.definitions.specs.declared.logs.Entry.{Entry}
use Rattle.definitions.specs.Lists.{is_empty}
use Rattle.definitions.specs.Steps.{is_taken_in}
use Rattle.peer_rules.specs.declared.arrivals.Arrival.{Arrival}

-- after this log the frame is new, and no finding stands
abbrev pub is_new_to : Game → (me : ℕ) → List Entry → Arrival → Bool
is_new_to game me h a = is_taken_in game me h a.player a.frame

-- the frames that wait from the first one that is new on: those before it are passed over
abbrev pub still_new : Game → (me : ℕ) → List Entry → List Arrival → List Arrival
still_new game me h [] = []
still_new game me h (a ∷ more) = if is_new_to game me h a then a ∷ more else still_new game me h more

-- none of them makes an entry
abbrev pub is_handled : Game → (me : ℕ) → List Entry → List Arrival → Bool
is_handled game me h waiting = is_empty (still_new game me h waiting)
