-- Opened: what a logger goes by, read from two files one after the other, or how a run ends where
-- there is nothing to go by. A file that isn't there counts as one without bytes here; reading it is
-- a fault of the shelf, which is answered where the file is read.
use Rattle.std.specs.Prelude.{◌≡◌, ℕ, zero, suc, List, [], ◌∷◌, Option, Result, Ok, Err}
use Rattle.definitions.specs.World.{Game, players_of}
use Rattle.rosters.specs.declared.limits.TheConstants.{ROSTER_FRONT}
use Rattle.rosters.specs.Rosters.{Neighbours}
use Rattle.rosters.specs.WatchText.{watch_roster_at}
use Rattle.station.specs.Shelves.{ShelfState}
use Rattle.line_io.specs.Files.{Contents, behind_first, content}
use Rattle.live_logger.specs.States.{LinksAll}
use Rattle.run_frame.specs.Faults.{read_by}
use Rattle.run_frame.specs.Opening.{Found, IsRefusedBy, Reads, front_in}
use Rattle.run_frame.specs.Sessions.{is_shelf_fault, session_in}
use Rattle.run_frame.specs.declared.statuses.Status.{Status}
use Rattle.run_frame.specs.declared.statuses.TextName.TheVariants.{Roster}
use Rattle.watch_command.specs.Words.{Watching}
use Rattle.watch_command.specs.declared.opening.WatchSource.{WatchSource}

-- what a logger goes by: the session, and a link to each of its players
pub record Source : Type 0 where
  pub game : Game
  pub roster : Neighbours

-- the links by a file, or how the run ends where none are read
abbrev pub links_in : Game → Option (List ℕ) → Result Neighbours Status
links_in game content = read_by Roster (watch_roster_at (players_of game) (front_in ROSTER_FRONT content))

-- the session and these links
abbrev pub with_links : Game → Result Neighbours Status → Result Source Status
with_links game (Err status) = Err status
with_links game (Ok roster) = Ok (record { game = game; roster = roster })

-- the same by the file after the session's, where there is a session
abbrev pub after_session : Result Game Status → Contents → Result Source Status
after_session (Err status) contents = Err status
after_session (Ok game) contents = with_links game (links_in game (content contents 0))

-- what a logger goes by, by the files: the session is asked first, then the roster
abbrev pub source_for : Contents → Result Source Status
source_for contents = after_session (session_in (content contents 0)) (behind_first contents)

-- the files that are read, in their order
abbrev pub source_names : Watching → List (List ℕ)
source_names w = w.session ∷ w.roster ∷ []

-- ---- when a file is read: the roster only where there is a session

abbrev pub MayReadRoster : Contents → ℕ → Type 0
MayReadRoster contents zero = Unit {0}
MayReadRoster contents (suc k) = Found (session_in (content contents 0))

-- ---- what was opened

-- it is what is due, and the roster has exactly one link to each player of the session
pub record IsSource (due : Result Source Status) (s : WatchSource) : Type 0 where
  pub due_is : due ≡ Ok (record { game = s.session; roster = s.roster })
  pub links : LinksAll s.session s.roster

abbrev pub IsSourceDue : Result Source Status → Result WatchSource Status → Type 0
IsSourceDue due (Ok s) = IsSource due s
IsSourceDue due (Err status) = IsRefusedBy due status

-- The session was read, and then the roster.
abbrev pub OpensSource : Watching → (before after : ShelfState) → Result WatchSource Status → Type 0
OpensSource w before after source =
    Reads before after (source_names w) (is_shelf_fault source) MayReadRoster (λ contents. IsSourceDue (source_for contents) source)
