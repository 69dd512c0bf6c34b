use Rattle.std.proofs.Common.{◌≡◌, ◌++◌, drop}
use Rattle.text_lines.specs.Lines.{joined}
use Rattle.sealed_text.specs.Text.{pair_lines}
use Rattle.sealed_text.proofs.printing.put_pairs.Given as goal

abbrev pub invariant-loop-i : goal.invariant-loop-i
invariant-loop-i l = l.out.items ++ joined (pair_lines (drop l.i l.frames) (drop l.i l.seals)) ≡ l.initial.out.items ++ joined (pair_lines l.frames l.seals)
