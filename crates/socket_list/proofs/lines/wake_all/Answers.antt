use Rattle.std.proofs.Common.{ap, sym, ◌∙◌, slice_set}
use Rattle.std.specs.Prelude.{◌==◌, if◌then◌else◌}
use Rattle.std.proofs.lemmas.List.Edits.{map_over_more}
use Rattle.socket_lines.specs.declared.line.Line.{Line}
use Rattle.socket_lines.specs.Lines.{woken}
use Rattle.socket_list.proofs.lines.wake_all.Goals as goal

pub loop-line-preserved : goal.loop-line-preserved
loop-line-preserved c =
    let f : Line → Line = λ l. if l.socket == c.args.socket then woken l else l in
    let x = c.line-item.is in
    ap (slice_set c.loop-line.lines c.loop-line.line-index) (c.wake.ensures ∙ ap f (sym x))
    ∙ map_over_more f _ c.loop-line.lines c.loop-line.line-index c.line-item.result c.loop-line-test.true c.loop-line.invariant x
