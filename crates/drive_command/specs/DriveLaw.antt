-- DriveLaw: what is promised of `drive`: a player of a file's session is driven by the input, from an older log on, if one is named.
use Rattle.std.specs.Prelude.{◌≡◌, ℕ, ◌<◌, ◌≤◌, true, List, ◌∷◌, Option, Some, None, Result, Ok, option_map}
use Rattle.definitions.specs.declared.logs.LogWhy.{LogWhy}
use Rattle.definitions.specs.World.{Game, players_of}
use Rattle.line_io.specs.Files.{Contents, content}
use Rattle.line_io.specs.Inputs.{Input}
use Rattle.run_frame.specs.Frame.{OnDone}
use Rattle.run_frame.specs.declared.statuses.Status.{Status}
use Rattle.run_frame.specs.declared.statuses.Status.TheVariants.{Usage, BadSession, BadLog}
use Rattle.grid_world.specs.declared.fault.SessionFault.TheVariants.{At}
use Rattle.grid_world.specs.Reading.{game_at, session_fault}
use Rattle.old_log.specs.Old.{old_fault}
use Rattle.old_log.specs.Beginnings.{Beginning}
use Rattle.drive_command.specs.Begin.{NeedsNoInput, TellsPlay, drive_answer}
use Rattle.drive_command.specs.Causes.{DriveCause, IsPlayed}
use Rattle.drive_command.specs.Laws.{DrivesAreRuns, LinesAreOneStream}
use Rattle.drive_command.specs.Words.{Driving}
use Rattle.old_log.specs.Files.{IsLogDue, log_names}
use Rattle.old_log.specs.Begun.{beginning_for, begun, log_front_of}
use Rattle.run_frame.specs.Sessions.{front_of}
use Rattle.run_frame.specs.Law.{Law, law_without_sockets}

-- what a driven peer begins with, or how the run ends where there is nothing
abbrev pub begins_with : Driving → Contents → Result Beginning Status
begins_with d contents = beginning_for d.player (content contents 0) (option_map (λ name. content contents 1) d.old)

-- The session's file has this session, and the player is one of it.
pub record IsSeated (d : Driving) (contents : Contents) (game : Game) : Type 0 where
  pub read : game_at (front_of (content contents 0)) ≡ Ok game
  pub player_is : d.player < players_of game

-- And the run begins with this.
pub record IsSet (d : Driving) (contents : Contents) (b : Beginning) : Type 0 where
  pub seated : IsSeated d contents b.game
  pub begins : begun d.player b.game (option_map (λ name. content contents 1) d.old) ≡ Ok b

-- The words name a player past those of the session.
pub record IsPast (d : Driving) (contents : Contents) : Type 0 where
  pub game : Game
  pub read : game_at (front_of (content contents 0)) ≡ Ok game
  pub past : players_of game ≤ d.player

-- A session is to be played, and the log that is named is one from which the player can't go on, because of this at this byte.
pub record IsBadOld (d : Driving) (contents : Contents) (log at : ℕ) (why : LogWhy) : Type 0 where
  pub game : Game
  pub name : List ℕ
  pub seated : IsSeated d contents game
  pub named : d.old ≡ Some name
  pub log_is : log ≡ 0
  pub fault_is : old_fault game d.player (log_front_of (content contents 1)) ≡ Some (record { at = at; why = why })

-- The run begins with something, and has this cause from there on.
pub record IsBegunSo (d : Driving) (contents : Contents) (input : Input) (status : Status) : Type 0 where
  pub begins : Beginning
  pub set : IsSet d contents begins
  pub cause : DriveCause d.player begins input status

-- why it may end so
abbrev pub drive_cause : Driving → Contents → Input → Status → Type 0
drive_cause d contents input Usage = IsPast d contents
drive_cause d contents input (BadSession line what) = session_fault (front_of (content contents 0)) ≡ Some (At line what)
drive_cause d contents input (BadLog log at why) = IsBadOld d contents log at why
drive_cause d contents input status = IsBegunSo d contents input status

-- What is behind the text.
pub record IsBehindDrive (d : Driving) (contents : Contents) (input : Input) : Type 0 where
  -- the log of which it tells is one of fair play
  pub play : (b : Beginning) → IsSet d contents b → TellsPlay d.player b input (drive_answer d.player (begins_with d contents) input).body
  -- and that of the protocol's steps which the lines of the input bring
  pub steps : DrivesAreRuns
  -- their bytes in whatever pieces
  pub streams : LinesAreOneStream

abbrev pub drive_law : Driving → Law
drive_law d = law_without_sockets (d.session ∷ log_names d.old)
    (λ before after calls. IsLogDue d.player calls)
    (λ contents input. drive_answer d.player (begins_with d contents) input)
    (λ contents. NeedsNoInput d.player (begins_with d contents))
    (λ status ended. OnDone status (ended ≡ true))
    true
    (drive_cause d)
    (λ contents input. (b : Beginning) × IsSet d contents b × IsPlayed d.player b input None)
    (IsBehindDrive d)
