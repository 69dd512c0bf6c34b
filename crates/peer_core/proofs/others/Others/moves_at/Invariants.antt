use Rattle.std.proofs.Common.{◌≡◌, length, take}
use Rattle.std.specs.Prelude.{map, slice_get}
use Rattle.peer_core.proofs.others.Others.moves_at.Given as goal

abbrev pub invariant-loop-at : goal.invariant-loop-at
invariant-loop-at l = record {
  long : length l.out ≡ length l.fn.out;
  moves : take l.at l.out ≡ map (λ w. slice_get w.known.moves l.turn) (take l.at l.self.windows);
}
