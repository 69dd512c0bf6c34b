-- ScheduleHolds: the law of the command to step a match: each status has its cause, what is good comes to its end, and what the text tells.
use Rattle.std.proofs.Common.{List, ℕ, inl, false, true, refl, ap, subst, sym, ◌∙◌, ◌≡◌}
use Rattle.std.specs.Prelude.{Err, Ok, Result}
use Rattle.definitions.specs.World.{Game}
use Rattle.grid_world.specs.declared.fault.SessionFault.{SessionFault}
use Rattle.grid_world.specs.declared.fault.SessionFault.TheVariants.{At, Memory}
use Rattle.grid_world.specs.Reading.{game_at}
use Rattle.grid_world.proofs.Found.{game_found}
use Rattle.line_io.specs.Files.{Contents, content}
use Rattle.line_io.specs.Inputs.{AtEnd, Input, ending_of}
use Rattle.run_frame.specs.Frame.{Answer}
use Rattle.run_frame.specs.Law.{HasCause}
use Rattle.run_frame.specs.Sessions.{ended_by, front_of, session_in}
use Rattle.run_frame.specs.declared.statuses.Status.{Status}
use Rattle.run_frame.specs.declared.statuses.Status.TheVariants.{BadSession, InputFault, NoMemory, OutputFault}
use Rattle.run_frame.proofs.SessionRead.{fault_said}
use Rattle.run_frame.proofs.Working.{Holds}
use Rattle.schedule_command.specs.Causes.{ScheduleCause, TellsMatch, answer_in}
use Rattle.schedule_command.specs.Schedule.{schedule_answer}
use Rattle.schedule_command.specs.ScheduleLaw.{schedule_law}
use Rattle.schedule_command.proofs.Commanded.{schedule_caused, schedule_done, schedule_tells}

schedule_read : (session : List ℕ) (contents : Contents) (input : Input) → ending_of input ≡ AtEnd → (r : Result Game SessionFault) → game_at (front_of (content contents 0)) ≡ r →
    HasCause (schedule_law session) contents input (answer_in (ended_by r) input).status
schedule_read session contents input ends (Ok game) f = go (schedule_answer game input).status (schedule_caused game input ends (game_found _ game f).session.ahead.0)
  where
    go : (s : Status) → ScheduleCause game input s → HasCause (schedule_law session) contents input s
    go NoMemory c = tt
    go InputFault c = tt
    go OutputFault c = tt
    go (BadSession line what) c = absurd c
    go s c = record { game = game; read = f; cause = c }
schedule_read session contents input ends (Err Memory) f = tt
schedule_read session contents input ends (Err (At line what)) f = fault_said (front_of (content contents 0)) (At line what) f

schedule_answer_is : (contents : Contents) (input : Input) (game : Game) → game_at (front_of (content contents 0)) ≡ Ok game → answer_in (session_in (content contents 0)) input ≡ schedule_answer game input
schedule_answer_is contents input game read = ap (λ (r : Result Game SessionFault). answer_in (ended_by r) input) read

pub schedule_holds : (session : List ℕ) → Holds (schedule_law session)
schedule_holds session = record {
  caused = λ contents input ends. schedule_read session contents input ends (game_at (front_of (content contents 0))) refl;
  done = λ contents input answered ends good.
      inl (ap (λ (x : Answer). x.status) (schedule_answer_is contents input good.0 good.1) ∙ schedule_done good.0 input ends good.2);
  meant = λ contents input game read.
      subst (λ (x : Answer). TellsMatch game input x) (sym (schedule_answer_is contents input game read)) (schedule_tells game input (game_found _ game read).session.ahead.0);
  unread = λ shelf. tt;
  unasked = λ shelf. refl;
  unremembered = λ ended e. absurd (let never : false ≡ true = e in cc);
  cut = λ ended e. absurd (let never : false ≡ true = e in cc);
  played_cause = λ contents input before after s p. absurd p;
  played_done = λ contents input before after s p good written. absurd p;
}
