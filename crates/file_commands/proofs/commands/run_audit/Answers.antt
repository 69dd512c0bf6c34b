use Rattle.std.proofs.Common.{refl}
use Rattle.run_frame.proofs.Alone.{refused_works, told_works}
use Rattle.file_commands.specs.AuditLaw.{audit_law}
use Rattle.file_commands.specs.AuditWords.{auditing_said}
use Rattle.file_commands.proofs.AuditHolds.{audit_holds}
use Rattle.file_commands.proofs.AuditRun.{audit_reads, audit_refused, audit_told}
use Rattle.file_commands.proofs.commands.run_audit.Goals as goal

pub returns-in-Ok : goal.returns-in-Ok
returns-in-Ok g c = λ rest.
    let a = auditing_said c.args.words in
    let o = c.in-Ok.ensures in
    told_works (audit_law a) (audit_holds a) refl rest _ _ _ o.calls (audit_reads _ _ a _ o) _ c.put_audit.result o.counted
    (λ contents input given. audit_told _ _ _ _ _ c.in-Ok.audited c.put_audit.result (o.due contents given) c.put_audit.ensures) tt

pub returns-in-Err : goal.returns-in-Err
returns-in-Err g c = λ rest.
    let a = auditing_said c.args.words in
    let o = c.in-Err.ensures in
    refused_works (audit_law a) (audit_holds a) refl rest _ _ _ o.calls (audit_reads _ _ a _ o) c.in-Err.status
    (λ contents input given. audit_refused _ _ _ c.in-Err.status (o.due contents given)) o.counted (λ due d. tt)
