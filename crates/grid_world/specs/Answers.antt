-- What reading a session answers.
use Rattle.std.specs.Prelude.{◌≡◌, ℕ, List, Bool, true, false}
use Rattle.sha2.specs.Sha256.{sha256}
use Rattle.definitions.specs.World.{Game}
use Rattle.grid_world.specs.declared.fault.SessionFault.{SessionFault}
use Rattle.grid_world.specs.declared.fault.SessionFault.TheVariants.{At, Memory}
use Rattle.grid_world.specs.Sessions.{IsSession}
use Rattle.grid_world.specs.Text.{session_text}

-- a session, and its text
pub record IsReadFrom (game : Game) (text : List ℕ) : Type 0 where
  pub session : IsSession game
  pub text_is : text ≡ session_text game
  pub id_is : game.id ≡ sha256 text

-- the fault is want of memory
abbrev pub is_memory : SessionFault → Bool
is_memory Memory = true
is_memory (At line what) = false
