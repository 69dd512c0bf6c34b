-- Own tracks: where a log's owner stood before each of its turns.
use Rattle.std.specs.Prelude.{◌≡◌, ℕ, List, [], ◌∷◌, map}
use Rattle.definitions.specs.declared.world.Move.{Move}
use Rattle.definitions.specs.declared.world.Track.{Track}
use Rattle.definitions.specs.declared.logs.Entry.{Entry}
use Rattle.definitions.specs.World.{Game}
use Rattle.definitions.specs.Moves.{next_track, start_track}
use Rattle.definitions.specs.Logs.{chosen}

-- the track, and the track after each of the moves
abbrev pub tracks_from : Game → Track → List Move → List Track
tracks_from game track [] = track ∷ []
tracks_from game track (m ∷ ms) = track ∷ tracks_from game (next_track game track m) ms

-- the owner's tracks before each turn that it chose, and after the last
abbrev pub AreOwnTracks : Game → ℕ → List Entry → List Track → Type 0
AreOwnTracks game me h tracks = tracks ≡ tracks_from game (start_track game me) (map (λ o. o.mv) (chosen me h))
