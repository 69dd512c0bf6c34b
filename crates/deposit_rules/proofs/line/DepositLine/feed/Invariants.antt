use Rattle.std.proofs.Common.{◌≡◌, ◌+◌, ◌≤◌, length}
use Rattle.deposit_rules.specs.Lines.{fed}
use Rattle.deposit_rules.proofs.line.DepositLine.feed.Given as goal

abbrev pub invariant-frames : goal.invariant-frames
invariant-frames l = record {
  same : fed l.rest l.self ≡ fed l.bytes l.fn.self;
  place : l.self.reader.place + length l.rest ≤ l.fn.self.reader.place + length l.bytes;
}

abbrev pub decreases-frames : goal.decreases-frames
decreases-frames l = length l.rest
