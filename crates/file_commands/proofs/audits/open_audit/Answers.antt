use Rattle.std.proofs.lemmas.Result.{err_from_is_err_and}
use Rattle.file_commands.proofs.AuditOpened.{an_audit, no_audit, no_audited}
use Rattle.file_commands.proofs.audits.open_audit.Goals as goal

pub returns-in_err-session : goal.returns-in_err-session
returns-in_err-session g c =
    let p = err_from_is_err_and c.from_residual.result c.from_residual.ensures.1 in
    rw (p.1, p.2) (no_audited _ _ _ _ c.in_err-session.field-0.0 c.in_err-session.ensures)

pub returns-in_err-auditor : goal.returns-in_err-auditor
returns-in_err-auditor g c =
    let p = err_from_is_err_and c.from_residual-in_err-auditor.result c.from_residual-in_err-auditor.ensures.1 in
    rw (p.1, p.2) (no_audit _ _ _ _ _ c.in_ok-session.session c.in_err-auditor.field-0.0 c.in_ok-session.ensures c.in_err-auditor.ensures)

pub returns : goal.returns
returns g c =
    an_audit _ _ _ _ _ (record { session = c.in_ok-session.session; auditor = c.in_ok-auditor.auditor }) c.in_ok-session.ensures c.in_ok-auditor.ensures
