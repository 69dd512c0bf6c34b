-- Files: what is read for a peer that goes on from the log in a file.
use Rattle.std.specs.Prelude.{◌≡◌, ◌⊎◌, ℕ, ◌<◌, false, Ok, Result, Option, Some, None, List, [], ◌∷◌, option_map}
use Rattle.station.specs.Outside.{faults_behind}
use Rattle.station.specs.Pieces.{AllGive}
use Rattle.station.specs.Shelves.{ShelfState}
use Rattle.station.specs.Since.{since}
use Rattle.line_io.specs.Files.{AreContents, Calls, Contents, ReadsFiles, content}
use Rattle.line_io.specs.Fronts.{Fetched}
use Rattle.run_frame.specs.Sessions.{front_of, is_shelf_fault, with_player}
use Rattle.run_frame.specs.declared.statuses.Status.{Status}
use Rattle.definitions.specs.Lists.{item_or}
use Rattle.definitions.specs.World.{Game, players_of}
use Rattle.grid_world.specs.Reading.{game_at}
use Rattle.old_log.specs.declared.resuming.Resumed.{Resumed}
use Rattle.old_log.specs.Begun.{IsStartFor, beginning_for, with_old}

-- the log's name, if one is named
abbrev pub log_names : (old : Option (List ℕ)) → List (List ℕ)
log_names None = []
log_names (Some name) = name ∷ []

-- A file with this content has a session, and the player is one of it.
pub record HasPlayer (player : ℕ) (content : Option (List ℕ)) : Type 0 where
  pub game : Game
  pub read : game_at (front_of content) ≡ Ok game
  pub player_is : player < players_of game

-- The log's file is read only where there is a session and the player is one of it.
abbrev pub IsLogDue : (player : ℕ) → Calls → Type 0
IsLogDue player calls = (session : Option (List ℕ)) → AllGive session (item_or calls 0 []) → (item_or calls 1 [] ≡ []) ⊎ HasPlayer player session

-- The log's file was read, where one is named and the player is one of the session; or none was.
abbrev pub FetchesLog : (before after : ShelfState) → Game → (player : ℕ) → (old : Option (List ℕ)) → Result Resumed Status → Type 0
FetchesLog before after game player old start =
    ((after ≡ before) × (is_shelf_fault start ≡ false))
    ⊎ ((name : List ℕ) × (old ≡ Some name) × (player < players_of game) × Fetched before after name (is_shelf_fault start))

-- A player of this session was begun with, from the log in a file on, if one is named.
pub record BeginsPeer (before after : ShelfState) (game : Game) (player : ℕ) (old : Option (List ℕ)) (start : Result Resumed Status) : Type 0 where
  pub fetches : FetchesLog before after game player old start
  pub due : (content : Option (List ℕ)) → AllGive content (since before.pieces after.pieces) →
      IsStartFor player (with_old player (with_player player (Ok game)) (option_map (λ name. content) old)) start

-- A player of a file's session was begun with, from the log in the other file on, if one is named.
pub record OpensPeer (before after : ShelfState) (session : List ℕ) (player : ℕ) (old : Option (List ℕ)) (start : Result Resumed Status) : Type 0 where
  pub calls : Calls
  pub reads : ReadsFiles (session ∷ log_names old) before after calls
  pub log_due : IsLogDue player calls
  pub counted : after.faults ≡ faults_behind (is_shelf_fault start) before.faults
  pub due : (contents : Contents) → AreContents contents calls → IsStartFor player (beginning_for player (content contents 0) (option_map (λ name. content contents 1) old)) start
