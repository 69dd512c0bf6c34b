use Rattle.std.proofs.Common.{◌≡◌, take}
use Rattle.definitions.specs.Honest.{IsHonest}
use Rattle.peer_core.proofs.peer.Peer.resume.Given as goal

abbrev pub invariant-loop-i : goal.invariant-loop-i
invariant-loop-i l = record {
  state : l.peer ≡ record { game = l.session; me = l.me; entries = take l.i l.entries };
  honest : IsHonest l.session l.me (take l.i l.entries);
}
