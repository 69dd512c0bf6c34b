-- AuditLaw: what is promised of `audit`: what the logs of a session show together is printed.
use Rattle.std.specs.Prelude.{◌≡◌, ℕ, List, [], ◌∷◌, Option, Some, None, Result, Ok, Err, true, length}
use Rattle.definitions.specs.declared.logs.LogWhy.{LogWhy}
use Rattle.definitions.specs.World.{Game}
use Rattle.definitions.specs.Findings.{findings}
use Rattle.line_io.specs.Files.{Contents, content, behind_first}
use Rattle.run_frame.specs.Frame.{Answer, bare_answer}
use Rattle.run_frame.specs.declared.statuses.Status.{Status}
use Rattle.run_frame.specs.declared.statuses.Status.TheVariants.{BadSession, BadLog}
use Rattle.grid_world.specs.declared.fault.SessionFault.TheVariants.{At}
use Rattle.grid_world.specs.Reading.{game_at, session_fault}
use Rattle.session_log.specs.Reading.{fault_at}
use Rattle.log_files.specs.Several.{FaultyLog, first_fault, logs_in, of_log, owners_in}
use Rattle.file_commands.specs.Audit.{AuditCause, audit_answer}
use Rattle.file_commands.specs.AuditLaws.{TellsAudit}
use Rattle.file_commands.specs.AuditWords.{Auditing}
use Rattle.file_commands.specs.Audits.{AreFiles, AreLogsDue}
use Rattle.run_frame.specs.Sessions.{front_of, session_in}
use Rattle.run_frame.specs.Law.{Law, law_without_input}

-- the answer for so many logs, of which the first that is none has this fault
abbrev pub audit_by : Option FaultyLog → Game → (files : Contents) → (many : ℕ) → Answer
audit_by (Some bad) game files many = bare_answer (BadLog bad.log bad.fault.at bad.fault.why)
audit_by None game files many = audit_answer game (owners_in game files many) (logs_in game files many)

-- the answer by the session and the files of so many logs
abbrev pub audit_for : Result Game Status → (files : Contents) → (many : ℕ) → Answer
audit_for (Err status) files many = bare_answer status
audit_for (Ok game) files many = audit_by (first_fault game files 0 many) game files many

-- The files have a session and so many logs of it.
pub record AreAudited (contents : Contents) (many : ℕ) (game : Game) : Type 0 where
  pub read : game_at (front_of (content contents 0)) ≡ Ok game
  pub sound : first_fault game (behind_first contents) 0 many ≡ None

-- A session is to be audited, and this is the first fault of its logs.
pub record IsBadLog (contents : Contents) (many log at : ℕ) (why : LogWhy) : Type 0 where
  pub game : Game
  pub read : game_at (front_of (content contents 0)) ≡ Ok game
  pub fault_is : first_fault game (behind_first contents) 0 many ≡ Some (of_log log (fault_at at why))

-- The files have a session and logs, of whose findings the status tells.
pub record IsAuditedSo (contents : Contents) (many : ℕ) (status : Status) : Type 0 where
  pub game : Game
  pub files : AreAudited contents many game
  pub cause : AuditCause (findings game (logs_in game (behind_first contents) many)) status

-- why it may end so
abbrev pub audit_cause : (many : ℕ) → Contents → Status → Type 0
audit_cause many contents (BadSession line what) = session_fault (front_of (content contents 0)) ≡ Some (At line what)
audit_cause many contents (BadLog log at why) = IsBadLog contents many log at why
audit_cause many contents status = IsAuditedSo contents many status

-- It takes memory after its first byte too, for the evidence.
abbrev pub audit_law : Auditing → Law
audit_law a = record (law_without_input (a.session ∷ a.logs)
    (λ before after calls. AreLogsDue calls)
    (λ contents. audit_for (session_in (content contents 0)) (behind_first contents) (length a.logs))
    (audit_cause (length a.logs))
    (λ contents. (game : Game) × AreAudited contents (length a.logs) game × (findings game (logs_in game (behind_first contents) (length a.logs)) ≡ []))
    (λ contents. (game : Game) → AreAudited contents (length a.logs) game → AreFiles (behind_first contents) (length a.logs) →
    TellsAudit game (owners_in game (behind_first contents) (length a.logs)) (logs_in game (behind_first contents) (length a.logs))
    (audit_for (session_in (content contents 0)) (behind_first contents) (length a.logs)).body)) { late = true }
