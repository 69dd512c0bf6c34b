-- Made: the frames that a player made who plays fair, in the order of places.
use Rattle.std.specs.Prelude.{◌≡◌, ◌<◌, ℕ, Bool, false, List, Option, Some, None, slice_get}
use Rattle.definitions.specs.declared.world.Move.{Move}
use Rattle.definitions.specs.declared.openings.Digest.{Digest}
use Rattle.definitions.specs.declared.openings.Nonce.{Nonce}
use Rattle.definitions.specs.declared.frames.TurnFrame.{TurnFrame}
use Rattle.definitions.specs.declared.frames.TurnFrame.TheVariants.{Commit, Reveal}
use Rattle.definitions.specs.World.{Game}
use Rattle.definitions.specs.Moves.{AreLegal}
use Rattle.definitions.specs.Logs.{frame_eq, player_of, turn_of}
use Rattle.definitions.specs.Held.{digest_of}
use Rattle.definitions.specs.Answers.{place_of}
use Rattle.definition_laws.specs.Members.{Has}

-- Item k of these is the player's frame of place k. Each reveal opens the commitment of its turn,
-- and is legal after the reveals before it: there are legal moves, turn by turn, which they show.
pub record AreMade (game : Game) (q : ℕ) (made : List TurnFrame) : Type 0 where
  pub placed : (k : ℕ) (f : TurnFrame) → slice_get made k ≡ Some f → (player_of f ≡ q) × (turn_of f < game.turns) × (place_of game f ≡ k)
  pub opened : (p t : ℕ) (m : Move) (n : Nonce) (d : Digest) → Has made (Reveal p t m n) → Has made (Commit p t d) → d ≡ digest_of game (Reveal p t m n)
  pub moves : List Move
  pub shown : (p t : ℕ) (m : Move) (n : Nonce) → Has made (Reveal p t m n) → slice_get moves t ≡ Some m
  pub legal : AreLegal game q moves

-- the second frame is the first, if there is a first
abbrev pub is_that : Option TurnFrame → TurnFrame → Bool
is_that None f = false
is_that (Some g) f = frame_eq g f

-- the frame stands at its place among those made
unfoldable pub is_made : Game → List TurnFrame → TurnFrame → Bool
is_made game made f = is_that (slice_get made (place_of game f)) f
