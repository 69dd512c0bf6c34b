use Rattle.std.proofs.Common.{◌∙◌, ap, subst, sym, true}
use Rattle.run_frame.specs.Frame.{Ran}
use Rattle.run_frame.specs.declared.statuses.Status.{Status}
use Rattle.file_commands.specs.Audit.{status_by}
use Rattle.file_commands.proofs.Printed.{ended}
use Rattle.accuse_command.specs.Accuse.{accused_answer}
use Rattle.accuse_command.proofs.Printed.{printed_so}
use Rattle.accuse_command.proofs.accusing.put_accusation.Goals as goal

pub returns-in-Ok : goal.returns-in-Ok
returns-in-Ok g c = λ game roots files w.
    let before = g.O.Sink.state c.args.out.now in
    let now = g.O.Sink.state c.put_report.new.out in
    subst (λ (s : Status). Ran before now (accused_answer game roots files) true ⊥ ⊥ s) (sym c.status_by.ensures)
    (ended before now (accused_answer game roots files) c.findings.result.now (c.in-Ok.ensures game roots files w) (ap status_by (c.findings.ensures ∙ w.found)))

pub returns-in-Err : goal.returns-in-Err
returns-in-Err g c = λ game roots files w. printed_so _ _ (accused_answer game roots files) c.in-Err.status (c.in-Err.ensures game roots files w)
