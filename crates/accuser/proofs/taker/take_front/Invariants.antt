use Rattle.std.proofs.Common.{◌≤◌, ◌-◌, drop, length}
use Rattle.accuser.specs.Taking.{Leaves, TakesFront}
use Rattle.accuser.proofs.taker.take_front.Given as goal

abbrev pub invariant-frames : goal.invariant-frames
invariant-frames l = record {
  within : l.at ≤ length l.bytes;
  front : TakesFront l.session l.roots l.initial.taker l.taker l.file l.bytes (drop l.at l.bytes);
  leaves : Leaves l.session l.initial.taker l.taker l.file;
}

abbrev pub decreases-frames : goal.decreases-frames
decreases-frames l = length l.bytes - l.at
