-- Sealers: what stands behind a handle of seals.
use Rattle.std.specs.Prelude.{◌≡◌, ℕ, List, Option, None, IfSome, length, replicate}
use Rattle.definitions.specs.World.{Game}
use Rattle.seal_keys.specs.Keys.{places}
use Rattle.seal_keys.specs.Seals.{seal_len}
use Rattle.seal_keys.specs.States.{Keys}

-- the session whose seals are judged, and a player's keys for it, where there are any
pub record Sealing : Type 0 where
  pub game : Game
  pub keys : Option Keys

-- the keys are for the session, and the room is as long as its seals
pub record IsSealer (game : Game) (keys : Option Keys) (room : List ℕ) : Type 0 where
  pub of_session : IfSome keys (λ k. k.game ≡ game)
  pub room_len : length room ≡ seal_len game

-- a player's keys by this seed, with which nothing was sealed
abbrev pub fresh_keys : Game → ℕ → List ℕ → Keys
fresh_keys game player seed = record { game = game; player = player; seed = seed; sealed = replicate (places game) None }
