use Rattle.std.proofs.Common.{◌≡◌, ◌++◌, drop, map}
use Rattle.auditor.specs.Agreed.{line_of}
use Rattle.auditor.proofs.world.lines_of.Given as goal

abbrev pub invariant-loop-player : goal.invariant-loop-player
invariant-loop-player l = l.lines.items ++ map line_of (drop l.player l.playout.standings) ≡ map line_of l.playout.standings
