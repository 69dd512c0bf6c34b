use Rattle.std.proofs.Common.{sym}
use Rattle.text_lines.proofs.FirstLine.{line_at-none, line_at-some}
use Rattle.text_fields.specs.declared.fault.TextFault.TheVariants.{At}
use Rattle.roots.specs.Reading.{line_number, root_said}
use Rattle.roots.proofs.Lines.{root_said-empty}
use Rattle.roots.proofs.reading.next_root.Goals as goal

pub returns-in-None : goal.returns-in-None
returns-in-None c =
    let q = c.args.player in
    rw c.line_number.ensures (line_at-none (At (line_number q)) (root_said q) c.args.text.now c.take_line.result.0.now (root_said-empty q) c.take_line.ensures.line (sym c.in-None.ensures))

pub returns-in-Some : goal.returns-in-Some
returns-in-Some c =
    let q = c.args.player in
    line_at-some (At (line_number q)) (root_said q) c.args.text.now c.take_line.result.0.now c.take_line.result.1.now c.in-Some.root (root_said-empty q) c.take_line.ensures.line c.take_line.ensures.rest (sym c.in-Some.ensures)
