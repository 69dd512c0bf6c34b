-- ScheduleLaw: what is promised of `schedule`: the honest peers of a match in a file's session are stepped by the input.
use Rattle.std.specs.Prelude.{◌≡◌, ℕ, List, [], ◌∷◌, Some, Ok, true, false}
use Rattle.definitions.specs.World.{Game}
use Rattle.line_io.specs.Files.{Contents, content}
use Rattle.line_io.specs.Inputs.{Input}
use Rattle.run_frame.specs.declared.statuses.Status.{Status}
use Rattle.run_frame.specs.declared.statuses.Status.TheVariants.{BadSession}
use Rattle.grid_world.specs.declared.fault.SessionFault.TheVariants.{At}
use Rattle.grid_world.specs.Reading.{game_at, session_fault}
use Rattle.schedule_command.specs.Causes.{AreClean, IsPlayedOut, NeedsNoInput, ScheduleCause, TellsMatch, answer_in}
use Rattle.schedule_command.specs.Played.{OnEnd}
use Rattle.run_frame.specs.Sessions.{front_of, session_in}
use Rattle.run_frame.specs.Law.{Law, law_without_sockets}

-- The file has a session, and a match in it has this cause.
pub record IsScheduledSo (contents : Contents) (input : Input) (status : Status) : Type 0 where
  pub game : Game
  pub read : game_at (front_of (content contents 0)) ≡ Ok game
  pub cause : ScheduleCause game input status

-- why it may end so
abbrev pub schedule_cause : Contents → Input → Status → Type 0
schedule_cause contents input (BadSession line what) = session_fault (front_of (content contents 0)) ≡ Some (At line what)
schedule_cause contents input status = IsScheduledSo contents input status

-- It takes the memory of its honest players where a line names them.
abbrev pub schedule_law : (session : List ℕ) → Law
schedule_law session = law_without_sockets (session ∷ [])
    (λ before after calls. Unit {0})
    (λ contents input. answer_in (session_in (content contents 0)) input)
    (λ contents. NeedsNoInput (session_in (content contents 0)))
    (λ status ended. OnEnd status (ended ≡ true))
    false
    schedule_cause
    (λ contents input. (game : Game) × (game_at (front_of (content contents 0)) ≡ Ok game) × IsPlayedOut game input AreClean)
    (λ contents input. (game : Game) → game_at (front_of (content contents 0)) ≡ Ok game → TellsMatch game input (answer_in (session_in (content contents 0)) input))
