use Rattle.std.proofs.Common.{sym, ◌∙◌}
use Rattle.roots.proofs.Ends.{end_bad, end_past, end_last}
use Rattle.roots.proofs.reading.read_end.Goals as goal

pub returns-then-not-is_last_line : goal.returns-then-not-is_last_line
returns-then-not-is_last_line c =
    end_bad c.args.n c.args.text.now c.take_line.result.0.now c.take_line.ensures.line (sym c.is_last_line.ensures ∙ c.if-not-is_last_line.true)

pub returns-then-not-is_empty : goal.returns-then-not-is_empty
returns-then-not-is_empty c =
    end_past c.args.n c.args.text.now c.take_line.result.0.now c.take_line.result.1.now c.take_line.ensures.line c.take_line.ensures.rest (sym c.is_last_line.ensures ∙ c.if-not-is_last_line.false)
    c.is_empty.result c.is_empty.ensures c.if-not-is_empty.true

pub returns : goal.returns
returns c =
    end_last c.args.n c.args.text.now c.take_line.result.0.now c.take_line.result.1.now c.take_line.ensures.line c.take_line.ensures.rest (sym c.is_last_line.ensures ∙ c.if-not-is_last_line.false)
    c.is_empty.result c.is_empty.ensures c.if-not-is_empty.false
