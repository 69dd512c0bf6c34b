use Rattle.std.proofs.Common.{◌≡◌, ◌++◌, drop, map}
use Rattle.text_lines.specs.Lines.{joined}
use Rattle.pilots.specs.Scripts.{move_line}
use Rattle.pilots.proofs.moves.print_moves.Given as goal

abbrev pub invariant-loop-mv : goal.invariant-loop-mv
invariant-loop-mv l = l.out.items ++ joined (map move_line (drop l.mv-index l.moves)) ≡ joined (map move_line l.moves)
