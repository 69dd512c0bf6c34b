-- Laws of the command: what is printed is that session again, and plays as the session did.
use Rattle.std.specs.Prelude.{◌≡◌, ℕ, List, Ok}
use Rattle.definitions.specs.declared.world.Cell.{Cell}
use Rattle.definitions.specs.declared.world.Move.{Move}
use Rattle.definitions.specs.declared.world.Track.{Track}
use Rattle.definitions.specs.World.{Game}
use Rattle.definitions.specs.Walk.{reach_of}
use Rattle.definitions.specs.Sphere.{sphere_of}
use Rattle.definitions.specs.Moves.{is_legal, track_after}
use Rattle.definitions.specs.Places.{slot_at}
use Rattle.grid_world.specs.Answers.{IsReadFrom}
use Rattle.grid_world.specs.Reading.{game_at}
use Rattle.grid_world.specs.Text.{session_text, upgraded}

-- what is printed of a session that was read is read as that session in version 2
abbrev pub UpgradedTextsAreRead : Type 0
UpgradedTextsAreRead = (game : Game) (text : List ℕ) → IsReadFrom game text → game_at (session_text (upgraded game)) ≡ Ok (upgraded game)

-- two sessions go by the same rules: the same moves are legal, they lead to the same tracks, each player reaches and affects the same
-- cells, and a stream has the same frames in the same places
pub record PlayAlike (a b : Game) : Type 0 where
  pub legal : (q : ℕ) (track : Track) (mv : Move) → is_legal a q track mv ≡ is_legal b q track mv
  pub tracks : (q : ℕ) (mvs : List Move) → track_after a q mvs ≡ track_after b q mvs
  pub reach : (q k : ℕ) (cells : List Cell) → reach_of a q k cells ≡ reach_of b q k cells
  pub sphere : (q : ℕ) (cells : List Cell) → sphere_of a q cells ≡ sphere_of b q cells
  pub places : (place : ℕ) → slot_at a place ≡ slot_at b place

-- a session plays as it does in version 2
abbrev pub UpgradedSessionsPlayAlike : Type 0
UpgradedSessionsPlayAlike = (game : Game) → PlayAlike (upgraded game) game
