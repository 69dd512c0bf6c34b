-- Alike: a session and what it is in version 2.
use Rattle.std.proofs.Common.{◌≡◌, ℕ, Bool, true, false, List, [], ◌∷◌, refl}
use Rattle.std.specs.Prelude.{◌==◌, if◌then◌else◌}
use Rattle.definitions.specs.declared.world.Move.{Move}
use Rattle.definitions.specs.declared.world.Track.{Track}
use Rattle.definitions.specs.World.{Game}
use Rattle.definitions.specs.Moves.{is_legal, next_track, track_from}
use Rattle.definitions.specs.Places.{commit_place, reveal_place, slot_at}
use Rattle.grid_world.specs.Text.{upgraded}
use Rattle.file_commands.specs.UpgradeLaws.{PlayAlike}

-- a session with another version and another id
abbrev renamed : Game → ℕ → List ℕ → Game
renamed game version id = record game { version = version; id = id }

tracks_alike : (game : Game) (version : ℕ) (id : List ℕ) (track : Track) (mvs : List Move) → track_from (renamed game version id) track mvs ≡ track_from game track mvs
tracks_alike game version id track [] = refl
tracks_alike game version id track (mv ∷ mvs) = tracks_alike game version id (next_track game track mv) mvs

renamed_alike : (game : Game) (version : ℕ) (id : List ℕ) → PlayAlike (renamed game version id) game
unfolding is_legal slot_at commit_place reveal_place
renamed_alike game version id = record {
  legal = λ q track mv. refl;
  tracks = λ q mvs. tracks_alike game version id _ mvs;
  reach = λ q k cells. refl;
  sphere = λ q cells. refl;
  places = λ place. refl;
}

same_alike : (game : Game) → PlayAlike game game
same_alike game = record { legal = λ q track mv. refl; tracks = λ q mvs. refl; reach = λ q k cells. refl; sphere = λ q cells. refl; places = λ place. refl }

pub upgraded_alike : (game : Game) → PlayAlike (upgraded game) game
upgraded_alike game = go (game.version == 1) _
  where
    go : (b : Bool) (id : List ℕ) → PlayAlike (if b then renamed game 2 id else game) game
    go true id = renamed_alike game 2 id
    go false id = same_alike game
