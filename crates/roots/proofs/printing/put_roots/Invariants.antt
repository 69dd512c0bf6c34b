use Rattle.std.proofs.Common.{◌≡◌, ◌++◌, drop}
use Rattle.text_lines.specs.Lines.{joined}
use Rattle.roots.specs.Text.{root_lines}
use Rattle.roots.proofs.printing.put_roots.Given as goal

abbrev pub invariant-loop-number : goal.invariant-loop-number
invariant-loop-number l = l.out.items ++ joined (root_lines l.number (drop l.number l.roots)) ≡ l.initial.out.items ++ joined (root_lines 0 l.roots)
