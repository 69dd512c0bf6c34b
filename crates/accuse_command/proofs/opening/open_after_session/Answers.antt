use Rattle.std.proofs.lemmas.Result.{err_from_is_err_and}
use Rattle.accuse_command.specs.AccuseWords.{accusing_said}
use Rattle.accuse_command.proofs.Opened.{a_report, no_report, no_roots}
use Rattle.accuse_command.proofs.opening.open_after_session.Goals as goal

pub returns-in_err-roots : goal.returns-in_err-roots
returns-in_err-roots g c =
    let p = err_from_is_err_and c.from_residual.result c.from_residual.ensures.1 in
    rw (p.1, p.2) (no_roots (accusing_said c.args.words) c.args.session _ _ c.in_err-roots.field-0.0 c.in_err-roots.ensures)

pub returns-in_err-report : goal.returns-in_err-report
returns-in_err-report g c =
    let p = err_from_is_err_and c.from_residual-in_err-report.result c.from_residual-in_err-report.ensures.1 in
    rw (p.1, p.2) (no_report (accusing_said c.args.words) c.args.session _ _ _ c.in_ok-roots.roots c.in_ok-roots.ensures c.in_err-report.field-0.0 c.in_err-report.ensures)

pub returns : goal.returns
returns g c = a_report (accusing_said c.args.words) c.args.session _ _ _ c.in_ok-roots.roots c.in_ok-roots.ensures c.in_ok-report.report c.in_ok-report.ensures
