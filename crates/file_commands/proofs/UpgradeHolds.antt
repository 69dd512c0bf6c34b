-- UpgradeHolds: the law of the command to upgrade: each status has its cause, what is good comes to its end, and what is behind the text.
use Rattle.std.proofs.Common.{List, ℕ, inl, refl, ap, subst, sym, ◌≡◌}
use Rattle.std.specs.Prelude.{Err, Ok, Result}
use Rattle.definitions.specs.World.{Game}
use Rattle.grid_world.specs.declared.fault.SessionFault.{SessionFault}
use Rattle.grid_world.specs.declared.fault.SessionFault.TheVariants.{At, Memory}
use Rattle.grid_world.specs.Reading.{game_at}
use Rattle.grid_world.proofs.Found.{game_found}
use Rattle.line_io.specs.Files.{Contents, content}
use Rattle.line_io.specs.Inputs.{Input}
use Rattle.run_frame.specs.Frame.{Answer}
use Rattle.run_frame.specs.Law.{HasCause}
use Rattle.run_frame.specs.Sessions.{ended_by, front_of, session_in}
use Rattle.run_frame.proofs.SessionRead.{fault_said}
use Rattle.run_frame.proofs.Working.{Holds}
use Rattle.file_commands.specs.Upgrade.{TellsUpgrade, upgrade_answer}
use Rattle.file_commands.specs.UpgradeLaw.{upgrade_law}
use Rattle.file_commands.proofs.Tells.{upgrade_tells}

upgrade_read : (session : List ℕ) (contents : Contents) (input : Input) (r : Result Game SessionFault) → game_at (front_of (content contents 0)) ≡ r →
    HasCause (upgrade_law session) contents input (upgrade_answer (ended_by r)).status
upgrade_read session contents input (Ok game) f = (record { game = game; read = f }, tt)
upgrade_read session contents input (Err Memory) f = tt
upgrade_read session contents input (Err (At line what)) f = fault_said (front_of (content contents 0)) (At line what) f

upgrade_answer_is : (contents : Contents) (game : Game) → game_at (front_of (content contents 0)) ≡ Ok game → upgrade_answer (session_in (content contents 0)) ≡ upgrade_answer (Ok game)
upgrade_answer_is contents game read = ap (λ (r : Result Game SessionFault). upgrade_answer (ended_by r)) read

pub upgrade_holds : (session : List ℕ) → Holds (upgrade_law session)
upgrade_holds session = record {
  caused = λ contents input ends. upgrade_read session contents input (game_at (front_of (content contents 0))) refl;
  done = λ contents input answered ends good. inl (ap (λ (a : Answer). a.status) (upgrade_answer_is contents good.game good.read));
  meant = λ contents input game read.
      subst (λ (a : Answer). TellsUpgrade game a.body) (sym (upgrade_answer_is contents game read)) (upgrade_tells game _ (game_found _ game read));
  unread = λ shelf. tt;
  unasked = λ shelf. refl;
  unremembered = λ ended. tt;
  cut = λ ended. tt;
  played_cause = λ contents input before after s p. absurd p;
  played_done = λ contents input before after s p good written. absurd p;
}
