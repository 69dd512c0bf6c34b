use Rattle.std.proofs.Common.{◌≡◌, ◌++◌, drop}
use Rattle.text_lines.specs.Lines.{fields_of}
use Rattle.text_lines.proofs.printing.put_line.Given as goal

abbrev pub invariant-loop-number : goal.invariant-loop-number
invariant-loop-number l = l.out.items ++ fields_of (drop l.number-index l.numbers) ≡ l.initial.out.items ++ fields_of l.numbers
