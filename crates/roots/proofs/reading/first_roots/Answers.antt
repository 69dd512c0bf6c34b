use Rattle.std.proofs.Common.{◌∙◌}
use Rattle.std.proofs.lemmas.Result.{err_from_is_err_and}
use Rattle.text_lines.specs.Lines.{ended_lines_of}
use Rattle.roots.proofs.Steps.{first_begun, first_fails, first_more}
use Rattle.roots.proofs.reading.first_roots.Goals as goal

pub returns-in_err-rest : goal.returns-in_err-rest
returns-in_err-rest c =
    let l = c.loop-player in
    let p = err_from_is_err_and c.from_residual.result c.from_residual.ensures.1 in
    rw (p.1, p.2) (first_fails c.in_err-rest.field-0.0 l.player c.args.players (ended_lines_of c.args.text.now) l.roots.items (ended_lines_of l.rest.now) c.loop-player-test.true l.invariant c.in_err-rest.ensures)

pub loop-player-init : goal.loop-player-init
loop-player-init c = first_begun (ended_lines_of c.args.text.now) c.new-roots.result.items c.new-roots.ensures.items

pub loop-player-preserved : goal.loop-player-preserved
loop-player-preserved c =
    let l = c.loop-player in
    first_more l.player (ended_lines_of c.args.text.now) l.roots.items (ended_lines_of l.rest.now) l.invariant ∙ c.in_ok-rest.ensures
