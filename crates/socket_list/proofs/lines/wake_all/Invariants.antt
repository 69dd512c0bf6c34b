use Rattle.std.proofs.Common.{◌≡◌, ◌++◌, take, drop}
use Rattle.socket_lines.specs.Lines.{woken}
use Rattle.loop_rules.specs.Tables.{in_lines}
use Rattle.socket_list.proofs.lines.wake_all.Given as goal

abbrev pub invariant-loop-line : goal.invariant-loop-line
invariant-loop-line l = l.lines ≡ in_lines l.socket woken (take l.line-index l.initial.lines) ++ drop l.line-index l.initial.lines
