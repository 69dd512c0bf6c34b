use Rattle.std.proofs.Common.{◌≡◌, drop}
use Rattle.std.specs.List.{list_any}
use Rattle.definitions.specs.Honest.{made_count}
use Rattle.loop_rules.specs.Licence.{has_bytes}
use Rattle.ready_loop.proofs.ready.Loop.bytes_wait.Given as goal

abbrev pub invariant-loop-place : goal.invariant-loop-place
invariant-loop-place l = list_any (has_bytes (made_count l.self.peer.entries) l.self.table) l.self.table.lines ≡ list_any (has_bytes (made_count l.self.peer.entries) l.self.table) (drop l.place l.self.table.lines)
