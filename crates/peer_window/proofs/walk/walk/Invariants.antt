use Rattle.std.proofs.Common.{length, ◌+◌, ◌-◌}
use Rattle.peer_window.specs.Slots.{AreSlots}
use Rattle.peer_window.specs.Steps as W
use Rattle.peer_window.proofs.walk.walk.Given as goal

abbrev pub invariant-loop-stream : goal.invariant-loop-stream
invariant-loop-stream l = record {
  slots : AreSlots l.player l.slots l.stream.commits l.stream.resolved;
  stream : W.IsThere l.session l.player l.slots l.stream;
}

abbrev pub decreases-loop-stream : goal.decreases-loop-stream
decreases-loop-stream l = length l.slots + length l.slots - (l.stream.commits + l.stream.resolved)
