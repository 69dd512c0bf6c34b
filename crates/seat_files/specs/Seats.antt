-- Seats: what a player plays by, by the files that the words name, or how the run ends where there is nothing to play by. A file
-- that isn't there counts as one without bytes here; reading it is a fault of the shelf, which is answered where the file is read.
use Rattle.std.specs.Prelude.{◌≡◌, ℕ, zero, suc, ◌<◌, List, [], ◌∷◌, take, Option, Result, Ok, Err, option_map, unwrap_or}
use Rattle.definitions.specs.declared.world.Move.{Move}
use Rattle.definitions.specs.World.{Game, players_of}
use Rattle.definitions.specs.Honest.{IsHonest}
use Rattle.text_fields.specs.declared.fault.TextFault.{TextFault}
use Rattle.rosters.specs.declared.limits.TheConstants.{ROSTER_FRONT}
use Rattle.rosters.specs.Rosters.{LinksOthers, Neighbours}
use Rattle.rosters.specs.Reading.{roster_at}
use Rattle.pilots.specs.declared.limits.TheConstants.{MOVES_FRONT}
use Rattle.pilots.specs.Scripts.{script_at}
use Rattle.station.specs.Shelves.{ShelfState}
use Rattle.line_io.specs.Files.{Contents, content, behind_first}
use Rattle.old_log.specs.Beginnings.{Beginning}
use Rattle.run_frame.specs.declared.statuses.Status.{Status}
use Rattle.run_frame.specs.declared.statuses.TextName.TheVariants.{Roster, Moves}
use Rattle.seat_files.specs.Words.{Peering}
use Rattle.seat_files.specs.declared.seats.Seat.{Seat}
use Rattle.old_log.specs.Files.{log_names}
use Rattle.old_log.specs.Begun.{begun}
use Rattle.run_frame.specs.Faults.{read_by}
use Rattle.run_frame.specs.Sessions.{is_shelf_fault, session_in, with_player}
use Rattle.run_frame.specs.Opening.{Found, IsRefusedBy, Reads}

-- the bytes of a roster's file that are read
unfoldable pub roster_front_of : Option (List ℕ) → List ℕ
roster_front_of content = take ROSTER_FRONT (unwrap_or content [])

-- the roster that is read, or how the run ends where none is
abbrev pub roster_by : Result Neighbours TextFault → Result Neighbours Status
roster_by r = read_by Roster r

-- the player's roster of a file
abbrev pub roster_in : Game → (player : ℕ) → Option (List ℕ) → Result Neighbours Status
roster_in game player content = roster_by (roster_at player (players_of game) (roster_front_of content))

-- the bytes of a moves text's file that are read
unfoldable pub moves_front_of : Option (List ℕ) → List ℕ
moves_front_of content = take MOVES_FRONT (unwrap_or content [])

-- the moves that are read, or how the run ends where none are
abbrev pub moves_by : Result (List Move) TextFault → Result (List Move) Status
moves_by r = read_by Moves r

-- the moves of a file, one for each turn
abbrev pub moves_in : Game → Option (List ℕ) → Result (List Move) Status
moves_in game content = moves_by (script_at game.turns (moves_front_of content))

-- what is played by: the session and the log that the player goes on from, the roster, and the moves
pub record Seating : Type 0 where
  pub begins : Beginning
  pub roster : Neighbours
  pub moves : List Move

-- the start, where there is something to begin with
abbrev pub start_of : Neighbours → List Move → Result Beginning Status → Result Seating Status
start_of r moves (Err status) = Err status
start_of r moves (Ok b) = Ok (record { begins = b; roster = r; moves = moves })

-- the same, where there are moves; the log's file has this content
abbrev pub start_by_moves : Peering → Game → Neighbours → Result (List Move) Status → (log : Option (List ℕ)) → Result Seating Status
start_by_moves p game r (Err status) log = Err status
start_by_moves p game r (Ok moves) log = start_of r moves (begun p.player game (option_map (λ name. log) p.old))

-- the same, by the files of the moves and of the log
abbrev pub behind_roster : Peering → Game → Neighbours → Contents → Result Seating Status
behind_roster p game r contents = start_by_moves p game r (moves_in game (content contents 0)) (content (behind_first contents) 0)

-- the same, where there is a roster
abbrev pub start_by_roster : Peering → Game → Result Neighbours Status → Contents → Result Seating Status
start_by_roster p game (Err status) contents = Err status
start_by_roster p game (Ok r) contents = behind_roster p game r contents

-- the same, where the player is one of the session
abbrev pub start_by_player : Peering → Result Game Status → Contents → Result Seating Status
start_by_player p (Err status) contents = Err status
start_by_player p (Ok game) contents = start_by_roster p game (roster_in game p.player (content contents 0)) (behind_first contents)

-- the same, by the files behind the session's
abbrev pub behind_session : Peering → Game → Contents → Result Seating Status
behind_session p game contents = start_by_player p (with_player p.player (Ok game)) contents

-- the same, where there is a session
abbrev pub start_by_session : Peering → Result Game Status → Contents → Result Seating Status
start_by_session p (Err status) contents = Err status
start_by_session p (Ok game) contents = behind_session p game contents

-- what is played by, by the files: the session is asked first, then the player, the roster, the moves, and the log, if one is named
abbrev pub start_for : Peering → Contents → Result Seating Status
start_for p contents = start_by_session p (session_in (content contents 0)) (behind_first contents)

-- the files that are read, in their order
abbrev pub seat_names : Peering → List (List ℕ)
seat_names p = p.session ∷ p.roster ∷ p.moves ∷ log_names p.old

-- ---- when a file is read: only where those before it have what is asked of them

abbrev pub MayReadLog : Game → Contents → ℕ → Type 0
MayReadLog game contents zero = Unit {0}
MayReadLog game contents (suc k) = Found (moves_in game (content contents 0))

abbrev pub MayReadMoves : Peering → Game → Contents → ℕ → Type 0
MayReadMoves p game contents zero = p.player < players_of game
MayReadMoves p game contents (suc k) = Found (roster_in game p.player (content contents 0)) × MayReadLog game (behind_first contents) k

abbrev pub MayReadRoster : Peering → Contents → ℕ → Type 0
MayReadRoster p contents zero = Unit {0}
MayReadRoster p contents (suc k) = (game : Game) × (session_in (content contents 0) ≡ Ok game) × MayReadMoves p game (behind_first contents) k

-- ---- what was opened

-- The seat is what is due: the peer has the session, the player and the log, and its neighbours are the other players.
pub record IsSeated (p : Peering) (due : Result Seating Status) (s : Seat) : Type 0 where
  pub due_is : due ≡ Ok (record { begins = record { game = s.peer.game; first = s.peer.entries; dropped = s.dropped }; roster = s.roster; moves = s.pilot })
  pub player_is : s.peer.me ≡ p.player
  pub seated : s.peer.me < players_of s.peer.game
  pub links : LinksOthers s.peer.me (players_of s.peer.game) s.roster
  pub honest : IsHonest s.peer.game s.peer.me s.peer.entries

abbrev pub IsSeatDue : Peering → Result Seating Status → Result Seat Status → Type 0
IsSeatDue p due (Ok s) = IsSeated p due s
IsSeatDue p due (Err status) = IsRefusedBy due status

-- The moves were read, and then the log, if one is named.
abbrev pub ReadsBehindRoster : Peering → Game → Neighbours → (before after : ShelfState) → Result Seat Status → Type 0
ReadsBehindRoster p game r before after seat =
    Reads before after (p.moves ∷ log_names p.old) (is_shelf_fault seat) (MayReadLog game) (λ contents. IsSeatDue p (behind_roster p game r contents) seat)

-- The roster was read, and then the rest.
abbrev pub ReadsBehindSession : Peering → Game → (before after : ShelfState) → Result Seat Status → Type 0
ReadsBehindSession p game before after seat =
    Reads before after (p.roster ∷ p.moves ∷ log_names p.old) (is_shelf_fault seat) (MayReadMoves p game) (λ contents. IsSeatDue p (behind_session p game contents) seat)

-- The session was read, and then the rest.
abbrev pub OpensSeat : Peering → (before after : ShelfState) → Result Seat Status → Type 0
OpensSeat p before after seat =
    Reads before after (seat_names p) (is_shelf_fault seat) (MayReadRoster p) (λ contents. IsSeatDue p (start_for p contents) seat)
