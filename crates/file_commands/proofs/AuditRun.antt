-- AuditRun: what a run of the command to audit reads, and when it is refused.
use Rattle.std.proofs.Common.{◌≡◌, ℕ, true, List, Option, Some, ap, sym, ◌∙◌, subst}
use Rattle.std.specs.Prelude.{Result, Err}
use Rattle.definitions.specs.declared.logs.Entry.{Entry}
use Rattle.definitions.specs.World.{Game}
use Rattle.station.specs.Shelves.{ShelfState}
use Rattle.station.specs.Sinks.{SinkState}
use Rattle.line_io.specs.Files.{Contents}
use Rattle.auditor.specs.Agreed.{AreOwned}
use Rattle.auditor.specs.Audits.{StandsFor}
use Rattle.log_files.specs.Several.{FaultyLog, logs_in, owners_in}
use Rattle.run_frame.specs.Frame.{Answer, Ran}
use Rattle.run_frame.specs.declared.statuses.Status.{Status}
use Rattle.run_frame.specs.declared.statuses.Status.TheVariants.{BadLog, BadSession, InputFault, NoMemory}
use Rattle.file_commands.specs.Audit.{audit_answer}
use Rattle.file_commands.specs.AuditWords.{Auditing}
use Rattle.file_commands.specs.declared.audits.Audited.{Audited}
use Rattle.file_commands.specs.Audits.{IsAuditDue, IsAuditFor, OpensAudit}
use Rattle.file_commands.specs.AuditLaw.{audit_by, audit_for, audit_law}
use Rattle.run_frame.specs.Law.{ReadsFor}
use Rattle.run_frame.proofs.Alone.{IsRefused}
use Rattle.file_commands.proofs.AuditMeant.{logs_owned}

pub audit_reads : (h h' : ShelfState) (a : Auditing) (audit : Result Audited Status) → (o : OpensAudit h h' a.session a.logs audit) → ReadsFor (audit_law a) h h' o.calls
audit_reads h h' a audit o = record { reads = o.reads; due = o.logs_due }

-- what is due where there is no session, or no log
pub audit_refused : (due : Result Game Status) (files : Contents) (many : ℕ) (s : Status) → IsAuditDue due files many (Err s) → IsRefused (audit_for due files many) s
audit_refused due files many NoMemory d = tt
audit_refused due files many InputFault d = tt
audit_refused due files many (BadSession line what) d = ap (λ r. audit_for r files many) d
audit_refused due files many (BadLog log at why) (game, read, fault) =
    ap (λ r. audit_for r files many) read ∙ ap (λ (f : Option FaultyLog). audit_by f game files many) fault
audit_refused due files many s d = absurd d

-- what was printed of the logs is what is due
pub audit_told : (before now : SinkState) (due : Result Game Status) (files : Contents) (many : ℕ) (a : Audited) (s : Status) → IsAuditFor due files many a →
    ((owners : List (Option ℕ)) (logs : List (List Entry)) → StandsFor a.session owners logs a.auditor → AreOwned a.session owners logs → Ran before now (audit_answer a.session owners logs) true ⊥ ⊥ s) →
    Ran before now (audit_for due files many) true ⊥ ⊥ s
audit_told before now due files many a s is ran =
    let same : audit_for due files many ≡ audit_answer a.session (owners_in a.session files many) (logs_in a.session files many) =
    ap (λ r. audit_for r files many) is.read ∙ ap (λ (f : Option FaultyLog). audit_by f a.session files many) is.sound in
    subst (λ (d : Answer). Ran before now d true ⊥ ⊥ s) (sym same) (ran (owners_in a.session files many) (logs_in a.session files many) is.stands (logs_owned a.session files many))
