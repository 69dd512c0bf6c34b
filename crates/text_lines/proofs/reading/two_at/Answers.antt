use Rattle.std.proofs.Common.{sym}
use Rattle.text_lines.specs.Lines as words
use Rattle.text_lines.proofs.FirstLine.{two_of-empty, line_at-none, line_at-some}
use Rattle.text_lines.proofs.reading.two_at.Goals as goal

pub returns-in-None : goal.returns-in-None
returns-in-None g c =
    line_at-none c.args.fault (words.two_of c.args.name.now) c.args.text.now c.take_line.result.0.now (two_of-empty c.args.name.now c.requires) c.take_line.ensures.line (sym c.in-None.ensures)

pub returns-in-Some : goal.returns-in-Some
returns-in-Some g c =
    line_at-some c.args.fault (words.two_of c.args.name.now) c.args.text.now c.take_line.result.0.now c.take_line.result.1.now c.in-Some.numbers (two_of-empty c.args.name.now c.requires) c.take_line.ensures.line c.take_line.ensures.rest (sym c.in-Some.ensures)
