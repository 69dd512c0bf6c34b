use Rattle.std.proofs.Common.{◌≡◌, ◌≤◌, length, take}
use Rattle.definitions.specs.Logs.{chosen}
use Rattle.peer_core.proofs.cutting.count_chosen.Given as goal

abbrev pub invariant-loop-entry : goal.invariant-loop-entry
invariant-loop-entry l = record { count_is : l.count ≡ length (chosen l._me (take l.entry-index l.entries)); few : l.count ≤ l.entry-index }
