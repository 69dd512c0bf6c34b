use Rattle.std.proofs.Common.{◌≡◌, drop, map}
use Rattle.auditor.specs.Agreed.{are_whole}
use Rattle.auditor.proofs.world.are_whole.Given as goal

abbrev pub invariant-loop-own : goal.invariant-loop-own
invariant-loop-own l = are_whole l.session (map (λ own. own.items) (drop l.own-index l.moves)) ≡ are_whole l.session (map (λ own. own.items) l.moves)
