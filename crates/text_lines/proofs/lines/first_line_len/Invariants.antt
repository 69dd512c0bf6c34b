use Rattle.std.proofs.Common.{◌≡◌, ◌+◌, drop}
use Rattle.text_lines.specs.Lines.{line_len}
use Rattle.text_lines.proofs.lines.first_line_len.Given as goal

abbrev pub invariant-loop-i : goal.invariant-loop-i
invariant-loop-i l = line_len l.text ≡ l.i + line_len (drop l.i l.text)
