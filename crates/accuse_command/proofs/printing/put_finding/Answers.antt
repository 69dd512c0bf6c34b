use Rattle.std.proofs.Common.{◌≡◌, ◌∙◌, ap, subst, List, ℕ}
use Rattle.std.specs.Prelude.{Ok}
use Rattle.std.proofs.lemmas.Result.{err_from_is_err_and}
use Rattle.station.specs.Sinks.{after_bytes}
use Rattle.line_io.specs.Texts.{CutShort}
use Rattle.line_io.proofs.Writing.{cut_behind, cut_longer, puts_behind}
use Rattle.file_commands.specs.AuditLines as L
use Rattle.file_commands.proofs.Printed.{begun_none}
use Rattle.accuser.specs.Accused.{sealed_of}
use Rattle.accuse_command.specs.Accuse.{accused_text, text_if_few}
use Rattle.accuse_command.proofs.Printed.{prints_begun, prints_cut}
use Rattle.accuse_command.proofs.printing.put_finding.Goals as goal

pub returns-in_err-evidence : goal.returns-in_err-evidence
returns-in_err-evidence g c = λ game roots files w.
    let p = err_from_is_err_and c.from_residual.result c.from_residual.ensures.1 in
    prints_begun _ _ _ c.from_residual.result p.0 p.1 p.2 (begun_none _ _)

pub returns-in_err-put : goal.returns-in_err-put
unfolding accused_text
returns-in_err-put g c = λ game roots files w.
    let f = c.args.finding.now in
    let p = err_from_is_err_and c.from_residual-in_err-put.result c.from_residual-in_err-put.ensures.1 in
    let line : c.as_slice.result.now ≡ L.finding_line f = c.as_slice.ensures.value ∙ c.finding_line.ensures in
    prints_cut _ _ _ c.from_residual-in_err-put.result p.0 p.1 p.2
    (cut_longer _ _ (L.finding_line f) (text_if_few (sealed_of game roots files f))
    (subst (λ (t : List ℕ). CutShort (g.O.Sink.state c.args.out.now) (g.O.Sink.state c.put.new.out) t) line c.in_err-put.ensures))

pub returns-in_err-put-2 : goal.returns-in_err-put-2
unfolding accused_text
returns-in_err-put-2 g c = λ game roots files w.
    let f = c.args.finding.now in
    let before = g.O.Sink.state c.args.out.now in
    let between = g.O.Sink.state c.put.new.out in
    let p = err_from_is_err_and c.from_residual-in_err-put-2.result c.from_residual-in_err-put-2.ensures.1 in
    let line : c.as_slice.result.now ≡ L.finding_line f = c.as_slice.ensures.value ∙ c.finding_line.ensures in
    let text : c.deref.result.now ≡ text_if_few (sealed_of game roots files f) = c.deref.ensures.value ∙ c.in_ok-evidence.ensures game roots files w in
    prints_cut _ _ _ c.from_residual-in_err-put-2.result p.0 p.1 p.2
    (cut_behind _ _ _ (L.finding_line f) (text_if_few (sealed_of game roots files f)) (c.in_ok-put.ensures ∙ ap (after_bytes before) line)
    (subst (λ (t : List ℕ). CutShort between (g.O.Sink.state c.put-2.new.out) t) text c.in_err-put-2.ensures))

pub returns : goal.returns
unfolding accused_text
returns g c = λ game roots files w.
    let f = c.args.finding.now in
    let before = g.O.Sink.state c.args.out.now in
    let between = g.O.Sink.state c.put.new.out in
    let line : c.as_slice.result.now ≡ L.finding_line f = c.as_slice.ensures.value ∙ c.finding_line.ensures in
    let text : c.deref.result.now ≡ text_if_few (sealed_of game roots files f) = c.deref.ensures.value ∙ c.in_ok-evidence.ensures game roots files w in
    puts_behind _ _ _ (L.finding_line f) (text_if_few (sealed_of game roots files f)) (Ok tt) (c.in_ok-put.ensures ∙ ap (after_bytes before) line) (c.in_ok-put-2.ensures ∙ ap (after_bytes between) text)
