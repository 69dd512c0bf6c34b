-- UpgradeLaw: what is promised of `upgrade`: a file's session is printed in version 2.
use Rattle.std.specs.Prelude.{◌≡◌, ℕ, List, [], ◌∷◌, Some, Ok}
use Rattle.definitions.specs.World.{Game}
use Rattle.line_io.specs.Files.{Contents, content}
use Rattle.run_frame.specs.Frame.{EndCause}
use Rattle.run_frame.specs.declared.statuses.Status.{Status}
use Rattle.run_frame.specs.declared.statuses.Status.TheVariants.{BadSession}
use Rattle.grid_world.specs.declared.fault.SessionFault.TheVariants.{At}
use Rattle.grid_world.specs.Reading.{game_at, session_fault}
use Rattle.file_commands.specs.Upgrade.{TellsUpgrade, upgrade_answer}
use Rattle.run_frame.specs.Sessions.{HasGame, front_of, session_in}
use Rattle.run_frame.specs.Law.{Law, law_without_input}

-- why it may end so
abbrev pub upgrade_cause : Contents → Status → Type 0
upgrade_cause contents (BadSession line what) = session_fault (front_of (content contents 0)) ≡ Some (At line what)
upgrade_cause contents status = HasGame (content contents 0) × EndCause status

abbrev pub upgrade_law : (session : List ℕ) → Law
upgrade_law session = law_without_input (session ∷ [])
    (λ before after calls. Unit {0})
    (λ contents. upgrade_answer (session_in (content contents 0)))
    upgrade_cause
    (λ contents. HasGame (content contents 0))
    (λ contents. (game : Game) → game_at (front_of (content contents 0)) ≡ Ok game → TellsUpgrade game (upgrade_answer (session_in (content contents 0))).body)
