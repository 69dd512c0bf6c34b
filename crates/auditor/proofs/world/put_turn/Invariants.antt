use Rattle.std.proofs.Common.{◌≡◌, ◌++◌, drop, map}
use Rattle.auditor.specs.Played.{moves_at}
use Rattle.auditor.proofs.world.put_turn.Given as goal

abbrev pub invariant-loop-own : goal.invariant-loop-own
invariant-loop-own l = l.out.items ++ moves_at (map (λ own. own.items) (drop l.own-index l.moves)) l.turn ≡ moves_at (map (λ own. own.items) l.moves) l.turn
