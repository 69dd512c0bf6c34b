use Rattle.accuse_command.proofs.Opened.{no_report_read, report_read}
use Rattle.accuse_command.proofs.opening.open_report.Goals as goal

pub returns-in-Ok : goal.returns-in-Ok
returns-in-Ok g c = report_read _ _ _ _ _ c.in-Ok.report c.in-Ok.ensures

pub returns-in-Err : goal.returns-in-Err
returns-in-Err g c = rw c.status_of.ensures (no_report_read _ _ _ _ _ c.in-Err.fault c.in-Err.ensures)
