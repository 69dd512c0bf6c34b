use Rattle.std.proofs.Common.{ap, sym, subst, List, ◌∙◌}
use Rattle.std.specs.Prelude.{Ok, Err, is_some}
use Rattle.std.proofs.lemmas.Result.{err_from_is_err_and}
use Rattle.definitions.specs.Findings.{findings}
use Rattle.definitions.specs.Lists.{EachIs}
use Rattle.definitions.specs.World.{players_of}
use Rattle.definitions.specs.declared.findings.Finding.{Finding}
use Rattle.definition_laws.specs.Members.{Has}
use Rattle.auditor.specs.Reports.{agreed_by, found_in, world_by}
use Rattle.report_lines.specs.Lines.{end_line_text}
use Rattle.station.specs.Sinks.{after_bytes}
use Rattle.line_io.proofs.Writing.{cut_behind, cut_longer, puts_behind}
use Rattle.file_commands.specs.Audit.{all_found_text, last_text, rest_text, world_text}
use Rattle.file_commands.specs.AuditLines.{agreed_lines}
use Rattle.file_commands.specs.AuditPrinting.{Prints}
use Rattle.file_commands.proofs.Printed.{prints_cut, prints_first}
use Rattle.file_commands.proofs.audit_printing.put_report.Goals as goal

pub returns-in_err-put_findings : goal.returns-in_err-put_findings
returns-in_err-put_findings g c = λ owners logs w m.
    let game = c.args.session.now in
    let r = c.args.report.now in
    let p = err_from_is_err_and c.from_residual.result c.from_residual.ensures.1 in
    let each = subst (λ (fs : List Finding). EachIs (Has (findings game logs)) fs) (sym c.findings.ensures) m in
    let before = g.O.Sink.state c.args.out.now in
    let now = g.O.Sink.state c.put_findings.new.out in
    let found = subst (λ (fs : List Finding). Prints before now (all_found_text game logs fs) (Err c.in_err-put_findings.field-0.0)) c.findings.ensures (c.in_err-put_findings.ensures game owners logs w each) in
    rw (p.1, p.2) (prints_first before now (all_found_text game logs (found_in r)) (rest_text game (agreed_by r) (is_some (world_by r 0)) (world_by r)) c.in_err-put_findings.field-0.0 found)

pub returns-in_err-put_agreed : goal.returns-in_err-put_agreed
unfolding rest_text
returns-in_err-put_agreed g c = λ owners logs w m.
    let game = c.args.session.now in
    let r = c.args.report.now in
    let each = subst (λ (fs : List Finding). EachIs (Has (findings game logs)) fs) (sym c.findings.ensures) m in
    let before = g.O.Sink.state c.args.out.now in
    let first = g.O.Sink.state c.put_findings.new.out in
    let told = c.in_ok-put_findings.ensures game owners logs w each ∙ ap (λ (fs : List Finding). after_bytes before (all_found_text game logs fs)) c.findings.ensures in
    let p = err_from_is_err_and c.from_residual-in_err-put_agreed.result c.from_residual-in_err-put_agreed.ensures.1 in
    prints_cut _ _ _ c.from_residual-in_err-put_agreed.result p.0 p.1 p.2
    (cut_behind before first _ (all_found_text game logs (found_in r)) (rest_text game (agreed_by r) (is_some (world_by r 0)) (world_by r)) told
    (cut_longer _ _ (agreed_lines (agreed_by r) 0 (players_of game)) (last_text game (is_some (world_by r 0)) (world_by r)) c.in_err-put_agreed.ensures))

pub returns-in_err-put_world : goal.returns-in_err-put_world
unfolding rest_text
returns-in_err-put_world g c = λ owners logs w m.
    let game = c.args.session.now in
    let r = c.args.report.now in
    let each = subst (λ (fs : List Finding). EachIs (Has (findings game logs)) fs) (sym c.findings.ensures) m in
    let before = g.O.Sink.state c.args.out.now in
    let first = g.O.Sink.state c.put_findings.new.out in
    let told = c.in_ok-put_findings.ensures game owners logs w each ∙ ap (λ (fs : List Finding). after_bytes before (all_found_text game logs fs)) c.findings.ensures in
    let p = err_from_is_err_and c.from_residual-in_err-put_world.result c.from_residual-in_err-put_world.ensures.1 in
    prints_cut _ _ _ c.from_residual-in_err-put_world.result p.0 p.1 p.2
    (cut_behind before first _ (all_found_text game logs (found_in r)) (rest_text game (agreed_by r) (is_some (world_by r 0)) (world_by r)) told
    (cut_behind _ _ _ (agreed_lines (agreed_by r) 0 (players_of game)) (last_text game (is_some (world_by r 0)) (world_by r)) c.in_ok-put_agreed.ensures
    (cut_longer _ _ (world_text game (is_some (world_by r 0)) (world_by r)) end_line_text c.in_err-put_world.ensures)))

pub returns-in_err-put : goal.returns-in_err-put
unfolding rest_text
returns-in_err-put g c = λ owners logs w m.
    let game = c.args.session.now in
    let r = c.args.report.now in
    let each = subst (λ (fs : List Finding). EachIs (Has (findings game logs)) fs) (sym c.findings.ensures) m in
    let before = g.O.Sink.state c.args.out.now in
    let first = g.O.Sink.state c.put_findings.new.out in
    let told = c.in_ok-put_findings.ensures game owners logs w each ∙ ap (λ (fs : List Finding). after_bytes before (all_found_text game logs fs)) c.findings.ensures in
    let p = err_from_is_err_and c.from_residual-in_err-put.result c.from_residual-in_err-put.ensures.1 in
    prints_cut _ _ _ c.from_residual-in_err-put.result p.0 p.1 p.2
    (cut_behind before first _ (all_found_text game logs (found_in r)) (rest_text game (agreed_by r) (is_some (world_by r 0)) (world_by r)) told
    (cut_behind _ _ _ (agreed_lines (agreed_by r) 0 (players_of game)) (last_text game (is_some (world_by r 0)) (world_by r)) c.in_ok-put_agreed.ensures
    (cut_behind _ _ _ (world_text game (is_some (world_by r 0)) (world_by r)) end_line_text c.in_ok-put_world.ensures (rw c.end_line.ensures at c.in_err-put.ensures))))

pub returns : goal.returns
unfolding rest_text
returns g c = λ owners logs w m.
    let game = c.args.session.now in
    let r = c.args.report.now in
    let each = subst (λ (fs : List Finding). EachIs (Has (findings game logs)) fs) (sym c.findings.ensures) m in
    let before = g.O.Sink.state c.args.out.now in
    let first = g.O.Sink.state c.put_findings.new.out in
    let told = c.in_ok-put_findings.ensures game owners logs w each ∙ ap (λ (fs : List Finding). after_bytes before (all_found_text game logs fs)) c.findings.ensures in
    puts_behind before first _ (all_found_text game logs (found_in r)) (rest_text game (agreed_by r) (is_some (world_by r 0)) (world_by r)) (Ok tt) told
    (puts_behind _ _ _ (agreed_lines (agreed_by r) 0 (players_of game)) (last_text game (is_some (world_by r 0)) (world_by r)) (Ok tt) c.in_ok-put_agreed.ensures
    (puts_behind _ _ _ (world_text game (is_some (world_by r 0)) (world_by r)) end_line_text (Ok tt) c.in_ok-put_world.ensures (rw c.end_line.ensures at c.in_ok-put.ensures)))
