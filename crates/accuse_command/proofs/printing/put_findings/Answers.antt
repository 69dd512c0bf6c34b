use Rattle.std.proofs.Common.{◌≡◌, ◌+◌, ◌<◌, ◌∙◌, [], ap, arith, drop, get_or, length}
use Rattle.std.proofs.lemmas.Grind.{common_steps}
use Rattle.std.proofs.lemmas.Result.{err_from_is_err_and}
use Rattle.line_io.proofs.Writing.{underway_end, underway_more}
use Rattle.file_commands.proofs.Printed.{no_finding}
use Rattle.accuse_command.specs.Accuse.{accused_text, all_accused_text}
use Rattle.accuse_command.proofs.Printed.{found_next, found_none, prints_piece}
use Rattle.accuse_command.proofs.printing.put_findings.Goals as goal

pub returns-in_err-put_finding : goal.returns-in_err-put_finding
returns-in_err-put_finding g c = λ game roots files w.
    let fs = c.args.found.now in
    let i = c.findings.finding-index in
    let f = get_or fs i no_finding in
    let lt : i < length fs = grind (arith, common_steps) in
    let p = err_from_is_err_and c.from_residual.result c.from_residual.ensures.1 in
    rw (p.1, p.2)
    (prints_piece (g.O.Sink.state c.args.out.now) (g.O.Sink.state c.findings.out) (g.O.Sink.state c.put_finding.new.out) (all_accused_text game roots files fs) (all_accused_text game roots files (drop i fs)) (accused_text game roots files f)
    (all_accused_text game roots files (drop (i + 1) fs)) c.in_err-put_finding.field-0.0 (c.findings.invariant game roots files w) (found_next game roots files fs i lt)
    (c.in_err-put_finding.ensures game roots files w))

pub findings-preserved : goal.findings-preserved
findings-preserved g c = λ game roots files w.
    let fs = c.args.found.now in
    let i = c.findings.finding-index in
    let f = get_or fs i no_finding in
    let lt : i < length fs = grind (arith, common_steps) in
    underway_more (g.O.Sink.state c.args.out.now) (g.O.Sink.state c.findings.out) (g.O.Sink.state c.put_finding.new.out) (all_accused_text game roots files fs) (all_accused_text game roots files (drop i fs)) (accused_text game roots files f)
    (all_accused_text game roots files (drop (i + 1) fs)) (c.findings.invariant game roots files w) (found_next game roots files fs i lt)
    (c.in_ok-put_finding.ensures game roots files w)

pub returns : goal.returns
returns g c = λ game roots files w.
    let fs = c.args.found.now in
    let i = c.findings.finding-index in
    let none : drop i fs ≡ [] = grind (arith, common_steps) in
    underway_end (g.O.Sink.state c.args.out.now) (g.O.Sink.state c.findings.out) (all_accused_text game roots files fs) (all_accused_text game roots files (drop i fs)) (c.findings.invariant game roots files w)
    (ap (all_accused_text game roots files) none ∙ found_none game roots files)
