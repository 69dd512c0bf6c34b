-- Sessions: the session that a file has, or how a run ends where there is none. A file that isn't there counts as one without bytes here;
-- reading it is a fault of the shelf, which is answered where the file is read.
use Rattle.std.specs.Prelude.{◌≡◌, ℕ, Bool, false, List, [], take, Result, Ok, Err, Option, nat_lt, if◌then◌else◌, unwrap_or}
use Rattle.definitions.specs.World.{Game, players_of}
use Rattle.definitions.specs.declared.limits.TheConstants.{SESSION_FRONT}
use Rattle.grid_world.specs.declared.fault.SessionFault.{SessionFault}
use Rattle.grid_world.specs.declared.fault.SessionFault.TheVariants.{At, Memory}
use Rattle.grid_world.specs.Reading.{game_at}
use Rattle.station.specs.Pieces.{AllGive}
use Rattle.station.specs.Shelves.{ShelfState}
use Rattle.station.specs.Since.{since}
use Rattle.line_io.specs.Fronts.{Fetched}
use Rattle.run_frame.specs.Frame.{is_input_fault}
use Rattle.run_frame.specs.declared.statuses.Status.{Status}
use Rattle.run_frame.specs.declared.statuses.Status.TheVariants.{NoMemory, Usage, BadSession, InputFault}

-- the bytes of a session's file that are read
unfoldable pub front_of : Option (List ℕ) → List ℕ
front_of content = take SESSION_FRONT (unwrap_or content [])

-- the session that is read, or how the run ends where none is
abbrev pub ended_by : Result Game SessionFault → Result Game Status
ended_by (Err (At line what)) = Err (BadSession line what)
ended_by (Err Memory) = Err NoMemory
ended_by (Ok game) = Ok game

-- the session of a file
abbrev pub session_in : Option (List ℕ) → Result Game Status
session_in content = ended_by (game_at (front_of content))

-- the session, where the player is one of it
abbrev pub with_player : ℕ → Result Game Status → Result Game Status
with_player player (Err status) = Err status
with_player player (Ok game) = if nat_lt player (players_of game) then Ok game else Err Usage

-- the session of a file that the player plays
abbrev pub game_for : ℕ → Option (List ℕ) → Result Game Status
game_for player content = with_player player (session_in content)

-- A file with this content has a session.
pub record HasGame (content : Option (List ℕ)) : Type 0 where
  pub game : Game
  pub read : game_at (front_of content) ≡ Ok game

-- What is read is what is due, unless memory was wanting or the shelf failed.
abbrev pub IsDue : Result Game Status → Result Game Status → Type 0
IsDue due (Ok game) = due ≡ Ok game
IsDue due (Err NoMemory) = Unit {0}
IsDue due (Err InputFault) = Unit {0}
IsDue due (Err (BadSession line what)) = due ≡ Err (BadSession line what)
IsDue due (Err status) = ⊥

-- whether what is opened is refused for a fault of the shelf
abbrev pub is_shelf_fault : {T : Type 0} → Result T Status → Bool
is_shelf_fault (Ok start) = false
is_shelf_fault (Err status) = is_input_fault status

-- The session of a file was read.
pub record OpensSession (before after : ShelfState) (name : List ℕ) (session : Result Game Status) : Type 0 where
  pub fetched : Fetched before after name (is_shelf_fault session)
  pub due : (content : Option (List ℕ)) → AllGive content (since before.pieces after.pieces) → IsDue (session_in content) session
