use Rattle.std.proofs.Common.{ℕ, List}
use Rattle.seal_keys.specs.NodeTables.{HasNodes}
use Rattle.seal_keys.proofs.tree.put_nodes.Given as goal

abbrev pub invariant-loop-done : goal.invariant-loop-done
invariant-loop-done l = (leaves : ℕ → List ℕ) → HasNodes leaves l.height 0 l.initial.nodes → HasNodes leaves l.height l.done l.nodes
