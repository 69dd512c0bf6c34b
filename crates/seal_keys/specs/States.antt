-- States: a player's keys as contracts see them, and what becomes of them when a frame is sealed.
use Rattle.std.specs.Prelude.{ℕ, Bool, false, not, ◌&&◌, ◌==◌, List, Option, Some, None, nat_lt, slice_set, if◌then◌else◌}
use Rattle.std.specs.Str.{bytes_eq}
use Rattle.definitions.specs.declared.frames.TurnFrame.{TurnFrame}
use Rattle.definitions.specs.Lists.{item_or}
use Rattle.definitions.specs.World.{Game}
use Rattle.definitions.specs.Logs.{player_of, turn_of}
use Rattle.definitions.specs.Answers.{place_of}
use Rattle.seal_keys.specs.declared.answer.SealAnswer.{SealAnswer}
use Rattle.seal_keys.specs.declared.answer.SealAnswer.TheVariants.{Done, Used, Foreign}
use Rattle.seal_keys.specs.Seals.{message, seal_of}

-- of which session and player the keys are, their seed, and by place the digest that was sealed
pub record Keys : Type 0 where
  pub game : Game
  pub player : ℕ
  pub seed : List ℕ
  pub sealed : List (Option (List ℕ))

-- the frame is the player's, and its turn is played
abbrev pub is_own : Keys → TurnFrame → Bool
is_own keys f = (player_of f == keys.player) && nat_lt (turn_of f) keys.game.turns

-- something was sealed, and not this digest
abbrev pub is_another : Option (List ℕ) → List ℕ → Bool
is_another None m = false
is_another (Some other) m = not (bytes_eq other m)

-- what becomes of the wish to seal the frame
unfoldable pub seal_answer : Keys → TurnFrame → SealAnswer
seal_answer keys f =
    if not (is_own keys f) then Foreign
    else if is_another (item_or keys.sealed (place_of keys.game f) None) (message keys.game f) then Used
    else Done

-- the keys after the answer
unfoldable pub after_seal : Keys → TurnFrame → SealAnswer → Keys
after_seal keys f Done = record keys { sealed = slice_set keys.sealed (place_of keys.game f) (Some (message keys.game f)) }
after_seal keys f Used = keys
after_seal keys f Foreign = keys

-- what stands in the room for the seal after the answer, where this stood there
unfoldable pub room_after : Keys → TurnFrame → SealAnswer → List ℕ → List ℕ
room_after keys f Done out = seal_of keys.game keys.seed (place_of keys.game f) (message keys.game f)
room_after keys f Used out = out
room_after keys f Foreign out = out
