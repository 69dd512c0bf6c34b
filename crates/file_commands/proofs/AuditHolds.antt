-- AuditHolds: the law of the command to audit: each status has its cause, what is good comes to its end, and who tells two moves is shown.
use Rattle.std.proofs.Common.{List, [], ◌∷◌, None, Option, Some, suc, ℕ, inl, refl, ap, ◌∙◌, ◌≡◌}
use Rattle.std.specs.Prelude.{Err, Ok, Result, length}
use Rattle.definitions.specs.World.{Game}
use Rattle.definitions.specs.declared.findings.Finding.{Finding}
use Rattle.definitions.specs.Findings.{findings}
use Rattle.definitions.specs.Lists.{is_empty}
use Rattle.grid_world.specs.declared.fault.SessionFault.{SessionFault}
use Rattle.grid_world.specs.declared.fault.SessionFault.TheVariants.{At, Memory}
use Rattle.grid_world.specs.Reading.{game_at}
use Rattle.grid_world.proofs.Found.{game_found}
use Rattle.line_io.specs.Files.{Contents, behind_first, content}
use Rattle.line_io.specs.Inputs.{Input}
use Rattle.line_io.proofs.Unread.{none_at}
use Rattle.log_files.specs.Several.{FaultyLog, first_fault, logs_in, owners_in}
use Rattle.run_frame.specs.Frame.{Answer}
use Rattle.run_frame.specs.Law.{HasCause}
use Rattle.run_frame.specs.Sessions.{ended_by, front_of, session_in}
use Rattle.run_frame.specs.declared.statuses.Status.{Status}
use Rattle.run_frame.proofs.SessionRead.{fault_said}
use Rattle.run_frame.proofs.Working.{Holds}
use Rattle.file_commands.specs.Audit.{audit_answer, status_by}
use Rattle.file_commands.specs.AuditLaw.{AreAudited, audit_by, audit_for, audit_law}
use Rattle.file_commands.specs.AuditWords.{Auditing}
use Rattle.file_commands.proofs.AuditMeant.{two_faces}

audit_caused : (a : Auditing) (contents : Contents) (input : Input) (game : Game) → game_at (front_of (content contents 0)) ≡ Ok game → (f : Option FaultyLog) →
    first_fault game (behind_first contents) 0 (length a.logs) ≡ f → HasCause (audit_law a) contents input (audit_by f game (behind_first contents) (length a.logs)).status
audit_caused a contents input game read (Some fault) e = record { game = game; read = read; fault_is = e }
audit_caused a contents input game read None e = go (findings game (logs_in game (behind_first contents) (length a.logs))) refl
  where
    go : (fs : List Finding) → findings game (logs_in game (behind_first contents) (length a.logs)) ≡ fs → HasCause (audit_law a) contents input (status_by fs)
    go [] is = record { game = game; files = record { read = read; sound = e }; cause = is }
    go (f ∷ fs) is = record { game = game; files = record { read = read; sound = e }; cause = ap is_empty is }

audit_read : (a : Auditing) (contents : Contents) (input : Input) (r : Result Game SessionFault) → game_at (front_of (content contents 0)) ≡ r →
    HasCause (audit_law a) contents input (audit_for (ended_by r) (behind_first contents) (length a.logs)).status
audit_read a contents input (Ok game) f = audit_caused a contents input game f (first_fault game (behind_first contents) 0 (length a.logs)) refl
audit_read a contents input (Err Memory) f = tt
audit_read a contents input (Err (At line what)) f = fault_said (front_of (content contents 0)) (At line what) f

audit_answer_is : (a : Auditing) (contents : Contents) (game : Game) → AreAudited contents (length a.logs) game →
    audit_for (session_in (content contents 0)) (behind_first contents) (length a.logs) ≡ audit_answer game (owners_in game (behind_first contents) (length a.logs)) (logs_in game (behind_first contents) (length a.logs))
audit_answer_is a contents game is =
    ap (λ (r : Result Game SessionFault). audit_for (ended_by r) (behind_first contents) (length a.logs)) is.read ∙
    ap (λ (f : Option FaultyLog). audit_by f game (behind_first contents) (length a.logs)) is.sound

pub audit_holds : (a : Auditing) → Holds (audit_law a)
audit_holds a = record {
  caused = λ contents input ends. audit_read a contents input (game_at (front_of (content contents 0))) refl;
  done = λ contents input answered ends good. inl (ap (λ (x : Answer). x.status) (audit_answer_is a contents good.0 good.1) ∙ ap status_by good.2);
  meant = λ contents input game is bytes. record {
    text_is = ap (λ (x : Answer). x.body) (audit_answer_is a contents game is);
    faces = two_faces game (behind_first contents) (length a.logs) (game_found _ game is.read).session bytes;
  };
  unread = λ shelf contents h i. inl (none_at (a.session ∷ a.logs) (suc i));
  unasked = λ shelf. refl;
  unremembered = λ ended. tt;
  cut = λ ended. tt;
  played_cause = λ contents input before after s p. absurd p;
  played_done = λ contents input before after s p good written. absurd p;
}
