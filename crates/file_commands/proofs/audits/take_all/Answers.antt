use Rattle.std.proofs.Common.{refl}
use Rattle.std.proofs.lemmas.Result.{err_from_is_err_and}
use Rattle.file_commands.proofs.AuditOpened.{none_all, whole_all}
use Rattle.file_commands.proofs.audits.take_all.Goals as goal

pub returns-in_err-auditor : goal.returns-in_err-auditor
returns-in_err-auditor g c =
    let p = err_from_is_err_and c.from_residual.result c.from_residual.ensures.1 in
    rw (p.1, p.2) (none_all _ _ _)

pub returns-in_err-buf : goal.returns-in_err-buf
returns-in_err-buf g c =
    let p = err_from_is_err_and c.from_residual-in_err-buf.result c.from_residual-in_err-buf.ensures.1 in
    rw (p.1, p.2) (none_all _ _ _)

pub returns-in-Whole : goal.returns-in-Whole
returns-in-Whole g c =
    whole_all _ _ _ _ c.in_ok-auditor.auditor c.take_logs.new.auditor
    (record { audit = c.in_ok-auditor.ensures.stands; owners_are = c.in_ok-auditor.ensures.owners; each = refl }) c.in-Whole.ensures
