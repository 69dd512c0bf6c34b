use Rattle.std.proofs.Common.{◌≡◌, ◌≤◌, take}
use Rattle.definitions.specs.Honest.{made_count}
use Rattle.peer_core.proofs.sending.count_made.Given as goal

abbrev pub invariant-loop-entry : goal.invariant-loop-entry
invariant-loop-entry l = record { count_is : l.count ≡ made_count (take l.entry-index l.entries); few : l.count ≤ l.entry-index }
