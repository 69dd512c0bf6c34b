use Rattle.std.proofs.Common.{◌-◌, ◌≡◌, ◌++◌, take}
use Rattle.example_embed.specs.Sending.{bytes_from}
use Rattle.example_embed.proofs.seat.Seat.send.Given as goal

abbrev pub invariant-loop-self : goal.invariant-loop-self
invariant-loop-self l = record {
  peer : l.self.peer ≡ l.initial.self.peer;
  bytes : l.out.items ++ bytes_from (take l.initial.self.stored l.initial.self.peer.entries) l.self.sent ≡
      l.initial.out.items ++ bytes_from (take l.initial.self.stored l.initial.self.peer.entries) l.initial.self.sent;
}

abbrev pub decreases-loop-self : goal.decreases-loop-self
decreases-loop-self l = l.until - l.self.sent
