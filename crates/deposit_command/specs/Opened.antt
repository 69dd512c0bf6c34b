-- Opened: what a log is deposited by, read from two files one after the other, or how a run ends where
-- there is nothing to go by. A file that isn't there counts as one without bytes here; reading it is
-- a fault of the shelf, which is answered where the file is read.
use Rattle.std.specs.Prelude.{◌≡◌, ℕ, zero, suc, ◌<◌, List, [], ◌∷◌, take, Option, Result, Ok, Err, unwrap_or}
use Rattle.definitions.specs.World.{Game, players_of}
use Rattle.text_fields.specs.declared.fault.TextFault.{TextFault}
use Rattle.rosters.specs.declared.limits.TheConstants.{ROSTER_FRONT}
use Rattle.rosters.specs.declared.logger.Logger.{Logger}
use Rattle.rosters.specs.LoggerText.{logger_at}
use Rattle.station.specs.Shelves.{ShelfState}
use Rattle.line_io.specs.Files.{Contents, behind_first, content}
use Rattle.run_frame.specs.Faults.{read_by}
use Rattle.run_frame.specs.Opening.{IsRefusedBy, Reads, front_in}
use Rattle.run_frame.specs.Sessions.{is_shelf_fault, session_in, with_player}
use Rattle.run_frame.specs.declared.statuses.Status.{Status}
use Rattle.run_frame.specs.declared.statuses.TextName.TheVariants.{Roster}
use Rattle.deposit_command.specs.Words.{Depositing}
use Rattle.deposit_command.specs.declared.opening.DepositSource.{DepositSource}

-- what is deposited by: the session, of which the player is one, and the player's logger
pub record Source : Type 0 where
  pub game : Game
  pub logger : Logger

-- the player's logger by a file, or how the run ends where none is read
abbrev pub logger_in : Option (List ℕ) → Result Logger Status
logger_in content = read_by Roster (logger_at (front_in ROSTER_FRONT content))

-- the session and this logger
abbrev pub with_logger : Game → Result Logger Status → Result Source Status
with_logger game (Err status) = Err status
with_logger game (Ok logger) = Ok (record { game = game; logger = logger })

-- the same by the file after the session's, where the player is one of the session
abbrev pub after_player : Result Game Status → Contents → Result Source Status
after_player (Err status) contents = Err status
after_player (Ok game) contents = with_logger game (logger_in (content contents 0))

-- the same, where there is a session
abbrev pub after_session : (player : ℕ) → Result Game Status → Contents → Result Source Status
after_session player (Err status) contents = Err status
after_session player (Ok game) contents = after_player (with_player player (Ok game)) contents

-- what is deposited by, by the files: the session is asked first, then the player, then the roster
abbrev pub source_for : Depositing → Contents → Result Source Status
source_for d contents = after_session d.player (session_in (content contents 0)) (behind_first contents)

-- the files that are read before the log, in their order
abbrev pub source_names : Depositing → List (List ℕ)
source_names d = d.session ∷ d.roster ∷ []

-- ---- when a file is read: only where that before it has what is asked of it

abbrev pub MayReadRoster : Depositing → Contents → ℕ → Type 0
MayReadRoster d contents zero = Unit {0}
MayReadRoster d contents (suc k) = (game : Game) × (session_in (content contents 0) ≡ Ok game) × (d.player < players_of game)

-- ---- what was opened

-- it is what is due, and the player is one of the session
pub record IsSource (d : Depositing) (due : Result Source Status) (s : DepositSource) : Type 0 where
  pub due_is : due ≡ Ok (record { game = s.session; logger = s.logger })
  pub seated : d.player < players_of s.session

abbrev pub IsSourceDue : Depositing → Result Source Status → Result DepositSource Status → Type 0
IsSourceDue d due (Ok s) = IsSource d due s
IsSourceDue d due (Err status) = IsRefusedBy due status

-- The session was read, and then the roster.
abbrev pub OpensSource : Depositing → (before after : ShelfState) → Result DepositSource Status → Type 0
OpensSource d before after source =
    Reads before after (source_names d) (is_shelf_fault source) (MayReadRoster d) (λ contents. IsSourceDue d (source_for d contents) source)
