use Rattle.std.proofs.Common.{◌≡◌, length, take, replicate}
use Rattle.std.specs.Prelude.{None}
use Rattle.peer_window.proofs.window.empty.Given as goal

abbrev pub invariant-loop-one : goal.invariant-loop-one
invariant-loop-one l = record {
  long : length l.slots ≡ length l.fn.slots;
  empty : take l.one-index l.slots ≡ replicate l.one-index None;
}
