use Rattle.std.proofs.Common.{ap, sym, ◌∙◌, slice_set}
use Rattle.std.proofs.lemmas.List.Edits.{map_over_more}
use Rattle.loop_rules.specs.Hearing.{ousted}
use Rattle.socket_list.proofs.lines.oust_all.Goals as goal

pub loop-line-preserved : goal.loop-line-preserved
loop-line-preserved c =
    let x = c.line-item.is in
    ap (slice_set c.loop-line.lines c.loop-line.line-index) (c.oust.ensures ∙ ap (ousted c.args.player) (sym x))
    ∙ map_over_more (ousted c.args.player) _ c.loop-line.lines c.loop-line.line-index c.line-item.result c.loop-line-test.true c.loop-line.invariant x
