use Rattle.std.proofs.Common.{◌≡◌, ◌+◌, ◌<◌, ◌∙◌, [], ap, arith, drop, get_or, length}
use Rattle.std.proofs.lemmas.Grind.{common_steps}
use Rattle.std.proofs.lemmas.Result.{err_from_is_err_and}
use Rattle.plain_lemmas.proofs.Each.{each_get}
use Rattle.definitions.specs.Findings.{findings}
use Rattle.definition_laws.specs.Members.{Has}
use Rattle.line_io.proofs.Writing.{underway_end, underway_more}
use Rattle.file_commands.specs.Audit.{all_found_text, found_text}
use Rattle.file_commands.proofs.Printed.{found_next, found_none, no_finding, prints_piece}
use Rattle.file_commands.proofs.audit_printing.put_findings.Goals as goal

pub returns-in_err-put_finding : goal.returns-in_err-put_finding
returns-in_err-put_finding g c = λ game owners logs w m.
    let fs = c.args.found.now in
    let i = c.findings.finding-index in
    let f = get_or fs i no_finding in
    let lt : i < length fs = grind (arith, common_steps) in
    let p = err_from_is_err_and c.from_residual.result c.from_residual.ensures.1 in
    rw (p.1, p.2)
    (prints_piece (g.O.Sink.state c.args.out.now) (g.O.Sink.state c.findings.out) (g.O.Sink.state c.put_finding.new.out) (all_found_text game logs fs) (all_found_text game logs (drop i fs)) (found_text game logs f)
    (all_found_text game logs (drop (i + 1) fs)) c.in_err-put_finding.field-0.0 (c.findings.invariant game owners logs w m) (found_next game logs fs i lt)
    (c.in_err-put_finding.ensures game owners logs w (each_get (Has (findings game logs)) fs i no_finding m lt)))

pub findings-preserved : goal.findings-preserved
findings-preserved g c = λ game owners logs w m.
    let fs = c.args.found.now in
    let i = c.findings.finding-index in
    let f = get_or fs i no_finding in
    let lt : i < length fs = grind (arith, common_steps) in
    underway_more (g.O.Sink.state c.args.out.now) (g.O.Sink.state c.findings.out) (g.O.Sink.state c.put_finding.new.out) (all_found_text game logs fs) (all_found_text game logs (drop i fs)) (found_text game logs f)
    (all_found_text game logs (drop (i + 1) fs)) (c.findings.invariant game owners logs w m) (found_next game logs fs i lt)
    (c.in_ok-put_finding.ensures game owners logs w (each_get (Has (findings game logs)) fs i no_finding m lt))

pub returns : goal.returns
returns g c = λ game owners logs w m.
    let fs = c.args.found.now in
    let i = c.findings.finding-index in
    let none : drop i fs ≡ [] = grind (arith, common_steps) in
    underway_end (g.O.Sink.state c.args.out.now) (g.O.Sink.state c.findings.out) (all_found_text game logs fs) (all_found_text game logs (drop i fs)) (c.findings.invariant game owners logs w m)
    (ap (all_found_text game logs) none ∙ found_none game logs)
