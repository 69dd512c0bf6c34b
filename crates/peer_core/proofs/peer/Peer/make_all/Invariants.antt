use Rattle.std.proofs.Common.{◌≡◌, ◌+◌, ◌-◌, ◌*◌, ◌≤◌}
use Rattle.definitions.specs.Logs.{chosen}
use Rattle.definitions.specs.Honest.{made_count}
use Rattle.definitions.specs.Advance.{advance}
use Rattle.definition_laws.proofs.ForPeers.{OwnCounts}
use Rattle.grid_world.specs.Sessions.{IsSession}
use Rattle.peer_core.proofs.peer.Peer.make_all.Given as goal

abbrev pub invariant-loop-frame : goal.invariant-loop-frame
invariant-loop-frame l = record {
  game : l.self.game ≡ l.initial.self.game;
  me : l.self.me ≡ l.initial.self.me;
  session : IsSession l.initial.self.game;
  log : advance l.initial.self.game l.initial.self.me l.self.entries ≡ advance l.initial.self.game l.initial.self.me l.initial.self.entries;
  chosen_same : chosen l.initial.self.me l.self.entries ≡ chosen l.initial.self.me l.initial.self.entries;
  start : OwnCounts l.initial.self.game l.initial.self.me l.initial.self.entries;
  counted : made_count l.self.entries ≡ made_count l.initial.self.entries + l.count;
  few : l.count ≤ l.initial.self.game.ahead + 2;
}

abbrev pub decreases-loop-frame : goal.decreases-loop-frame
decreases-loop-frame l = 2 * l.self.game.turns - made_count l.self.entries
