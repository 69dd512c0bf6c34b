use Rattle.std.proofs.Common.{◌∙◌, ap, subst, sym, List}
use Rattle.std.specs.Prelude.{Ok, Err}
use Rattle.std.proofs.lemmas.Result.{err_from_is_err_and}
use Rattle.definitions.specs.Lists.{EachIs}
use Rattle.definitions.specs.declared.findings.Finding.{Finding}
use Rattle.definition_laws.specs.Members.{Has}
use Rattle.definition_laws.proofs.Members.{each_Has}
use Rattle.report_lines.specs.Lines.{end_line_text}
use Rattle.station.specs.Sinks.{after_bytes}
use Rattle.line_io.proofs.Writing.{cut_behind, puts_behind}
use Rattle.accuser.specs.SealedReports.{found_in}
use Rattle.accuse_command.specs.Accuse.{accuse_text, all_accused_text, found_by}
use Rattle.accuse_command.specs.Printing.{Prints}
use Rattle.accuse_command.proofs.Printed.{prints_cut, prints_first}
use Rattle.accuse_command.proofs.printing.put_report.Goals as goal

pub put_findings-requires-clause-listed : goal.put_findings-requires-clause-listed
put_findings-requires-clause-listed g c =
    let found = found_in c.args.report.now in
    subst (λ (fs : List Finding). EachIs (Has found) fs) (sym c.findings.ensures) (each_Has (Has found) found (λ x m. m))

pub returns-in_err-put_findings : goal.returns-in_err-put_findings
unfolding accuse_text
returns-in_err-put_findings g c = λ game roots files w.
    let p = err_from_is_err_and c.from_residual.result c.from_residual.ensures.1 in
    let before = g.O.Sink.state c.args.out.now in
    let now = g.O.Sink.state c.put_findings.new.out in
    let found = subst (λ (fs : List Finding). Prints before now (all_accused_text game roots files fs) (Err c.in_err-put_findings.field-0.0)) (c.findings.ensures ∙ w.found) (c.in_err-put_findings.ensures game roots files w) in
    rw (p.1, p.2) (prints_first before now (all_accused_text game roots files (found_by game roots files)) end_line_text c.in_err-put_findings.field-0.0 found)

pub returns-in_err-put : goal.returns-in_err-put
unfolding accuse_text
returns-in_err-put g c = λ game roots files w.
    let before = g.O.Sink.state c.args.out.now in
    let first = g.O.Sink.state c.put_findings.new.out in
    let told = c.in_ok-put_findings.ensures game roots files w ∙ ap (λ (fs : List Finding). after_bytes before (all_accused_text game roots files fs)) (c.findings.ensures ∙ w.found) in
    let p = err_from_is_err_and c.from_residual-in_err-put.result c.from_residual-in_err-put.ensures.1 in
    prints_cut _ _ _ c.from_residual-in_err-put.result p.0 p.1 p.2
    (cut_behind before first _ (all_accused_text game roots files (found_by game roots files)) end_line_text told (rw c.end_line.ensures at c.in_err-put.ensures))

pub returns : goal.returns
unfolding accuse_text
returns g c = λ game roots files w.
    let before = g.O.Sink.state c.args.out.now in
    let first = g.O.Sink.state c.put_findings.new.out in
    let told = c.in_ok-put_findings.ensures game roots files w ∙ ap (λ (fs : List Finding). after_bytes before (all_accused_text game roots files fs)) (c.findings.ensures ∙ w.found) in
    puts_behind before first _ (all_accused_text game roots files (found_by game roots files)) end_line_text (Ok tt) told (rw c.end_line.ensures at c.in_ok-put.ensures)
