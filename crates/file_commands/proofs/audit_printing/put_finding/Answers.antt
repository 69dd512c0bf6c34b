use Rattle.std.proofs.Common.{◌≡◌, ◌++◌, ◌∙◌, ap, subst, sym, List, ℕ}
use Rattle.std.specs.Prelude.{Ok}
use Rattle.std.proofs.lemmas.Result.{err_from_is_err_and}
use Rattle.evidence.specs.Text.{exhibit_text}
use Rattle.station.specs.Sinks.{after_bytes}
use Rattle.line_io.specs.Texts.{CutShort}
use Rattle.line_io.proofs.Writing.{cut_behind, cut_longer, puts_behind}
use Rattle.file_commands.specs.Audit.{exhibit_of, found_text}
use Rattle.file_commands.specs.AuditLines as L
use Rattle.file_commands.proofs.Printed.{begun_none, prints_begun, prints_cut}
use Rattle.file_commands.proofs.audit_printing.put_finding.Goals as goal

pub returns-in_err-evidence : goal.returns-in_err-evidence
returns-in_err-evidence g c = λ game owners logs w m.
    let p = err_from_is_err_and c.from_residual.result c.from_residual.ensures.1 in
    prints_begun _ _ _ c.from_residual.result p.0 p.1 p.2 (begun_none _ _)

pub returns-in_err-put : goal.returns-in_err-put
unfolding found_text
returns-in_err-put g c = λ game owners logs w m.
    let f = c.args.finding.now in
    let p = err_from_is_err_and c.from_residual-in_err-put.result c.from_residual-in_err-put.ensures.1 in
    let line : c.as_slice.result.now ≡ L.finding_line f = c.as_slice.ensures.value ∙ c.finding_line.ensures in
    prints_cut _ _ _ c.from_residual-in_err-put.result p.0 p.1 p.2
    (cut_longer _ _ (L.finding_line f) (exhibit_text (exhibit_of game logs f))
    (subst (λ (t : List ℕ). CutShort (g.O.Sink.state c.args.out.now) (g.O.Sink.state c.put.new.out) t) line c.in_err-put.ensures))

pub returns-in_err-put-2 : goal.returns-in_err-put-2
unfolding found_text
returns-in_err-put-2 g c = λ game owners logs w m.
    let f = c.args.finding.now in
    let before = g.O.Sink.state c.args.out.now in
    let between = g.O.Sink.state c.put.new.out in
    let p = err_from_is_err_and c.from_residual-in_err-put-2.result c.from_residual-in_err-put-2.ensures.1 in
    let line : c.as_slice.result.now ≡ L.finding_line f = c.as_slice.ensures.value ∙ c.finding_line.ensures in
    let text : c.deref.result.now ≡ exhibit_text (exhibit_of game logs f) = c.deref.ensures.value ∙ c.in_ok-evidence.ensures game owners logs w m in
    prints_cut _ _ _ c.from_residual-in_err-put-2.result p.0 p.1 p.2
    (cut_behind _ _ _ (L.finding_line f) (exhibit_text (exhibit_of game logs f)) (c.in_ok-put.ensures ∙ ap (after_bytes before) line)
    (subst (λ (t : List ℕ). CutShort between (g.O.Sink.state c.put-2.new.out) t) text c.in_err-put-2.ensures))

pub returns : goal.returns
unfolding found_text
returns g c = λ game owners logs w m.
    let f = c.args.finding.now in
    let before = g.O.Sink.state c.args.out.now in
    let between = g.O.Sink.state c.put.new.out in
    let line : c.as_slice.result.now ≡ L.finding_line f = c.as_slice.ensures.value ∙ c.finding_line.ensures in
    let text : c.deref.result.now ≡ exhibit_text (exhibit_of game logs f) = c.deref.ensures.value ∙ c.in_ok-evidence.ensures game owners logs w m in
    puts_behind _ _ _ (L.finding_line f) (exhibit_text (exhibit_of game logs f)) (Ok tt) (c.in_ok-put.ensures ∙ ap (after_bytes before) line) (c.in_ok-put-2.ensures ∙ ap (after_bytes between) text)
