-- Upgrade: the answer to the command, and what is behind it.
use Rattle.std.specs.Prelude.{◌≡◌, ℕ, List, Result, Ok, Err}
use Rattle.definitions.specs.World.{Game}
use Rattle.grid_world.specs.Reading.{game_at}
use Rattle.grid_world.specs.Text.{session_text, upgraded}
use Rattle.run_frame.specs.Frame.{Answer, bare_answer}
use Rattle.run_frame.specs.declared.statuses.Status.{Status}
use Rattle.run_frame.specs.declared.statuses.Status.TheVariants.{Done}
use Rattle.file_commands.specs.UpgradeLaws.{PlayAlike}

-- the answer to the command: the session's text in version 2, where there is a session
abbrev pub upgrade_answer : Result Game Status → Answer
upgrade_answer (Err status) = bare_answer status
upgrade_answer (Ok game) = record { body = session_text (upgraded game); status = Done }

-- What is behind an answer with this body to a session.
pub record TellsUpgrade (game : Game) (body : List ℕ) : Type 0 where
  -- it is read as the session in version 2
  pub read : game_at body ≡ Ok (upgraded game)
  -- which plays as the session does
  pub alike : PlayAlike (upgraded game) game
