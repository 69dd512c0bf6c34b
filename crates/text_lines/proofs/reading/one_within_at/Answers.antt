use Rattle.std.proofs.Common.{sym}
use Rattle.text_lines.specs.Lines.{one_within}
use Rattle.text_lines.proofs.FirstLine.{one_within-empty, line_at-none, line_at-some}
use Rattle.text_lines.proofs.reading.one_within_at.Goals as goal

pub returns-in-None-clause-said : goal.returns-in-None-clause-said
returns-in-None-clause-said g c =
    line_at-none c.args.fault (one_within c.args.name.now c.args.low c.args.high) c.args.text.now c.take_line.result.0.now (one_within-empty c.args.name.now c.args.low c.args.high c.requires) c.take_line.ensures.line (sym c.in-None.ensures.said)

pub returns-in-Some-clause-said : goal.returns-in-Some-clause-said
returns-in-Some-clause-said g c =
    line_at-some c.args.fault (one_within c.args.name.now c.args.low c.args.high) c.args.text.now c.take_line.result.0.now c.take_line.result.1.now c.in-Some.number (one_within-empty c.args.name.now c.args.low c.args.high c.requires) c.take_line.ensures.line c.take_line.ensures.rest (sym c.in-Some.ensures.said)
