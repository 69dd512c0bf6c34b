-- Tells: what is printed of a session that was read is that session in version 2.
use Rattle.std.proofs.Common.{◌≡◌, ℕ, List}
use Rattle.definitions.specs.World.{Game}
use Rattle.grid_world.specs.Answers.{IsReadFrom}
use Rattle.grid_world.specs.Reading.{game_at}
use Rattle.grid_world.specs.Text.{session_text, upgraded}
use Rattle.std.specs.Prelude.{Ok}
use Rattle.grid_world.proofs.Found.{game_again}
use Rattle.grid_world.proofs.Later.{upgraded_read}
use Rattle.file_commands.specs.Upgrade.{TellsUpgrade}
use Rattle.file_commands.proofs.Alike.{upgraded_alike}

pub upgraded_again : (game : Game) (text : List ℕ) → IsReadFrom game text → game_at (session_text (upgraded game)) ≡ Ok (upgraded game)
upgraded_again game text from = game_again (session_text (upgraded game)) (upgraded game) (upgraded_read game text from)

pub upgrade_tells : (game : Game) (text : List ℕ) → IsReadFrom game text → TellsUpgrade game (session_text (upgraded game))
upgrade_tells game text from = record { read = upgraded_again game text from; alike = upgraded_alike game }
