use Rattle.std.proofs.Common.{◌≡◌, drop}
use Rattle.std.specs.List.{list_any}
use Rattle.socket_lines.specs.Lines.{serves}
use Rattle.socket_table.proofs.questions.any_serves.Given as goal

abbrev pub invariant-loop-line : goal.invariant-loop-line
invariant-loop-line l = list_any (serves l.player) l.lines ≡ list_any (serves l.player) (drop l.line-index l.lines)
