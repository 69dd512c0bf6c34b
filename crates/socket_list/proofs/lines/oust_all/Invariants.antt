use Rattle.std.proofs.Common.{◌≡◌, ◌++◌, map, take, drop}
use Rattle.loop_rules.specs.Hearing.{ousted}
use Rattle.socket_list.proofs.lines.oust_all.Given as goal

abbrev pub invariant-loop-line : goal.invariant-loop-line
invariant-loop-line l = l.lines ≡ map (ousted l.player) (take l.line-index l.initial.lines) ++ drop l.line-index l.initial.lines
