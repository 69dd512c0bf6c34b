-- Laws on walks: what the reaching test means.
use Rattle.std.specs.Prelude.{ℕ, ◌≤◌, ◌↔◌, IsTrue}
use Rattle.definitions.specs.declared.world.Cell.{Cell}
use Rattle.definitions.specs.World.{Ground}
use Rattle.definitions.specs.Walk.{Walk, reaches}

-- the test for k steps is true exactly where a walk of k steps leads
abbrev pub ReachesIsWalk : Type 0
ReachesIsWalk = (grid : Ground) (k : ℕ) (a b : Cell) → IsTrue (reaches grid k a b) ↔ Walk grid k a b

-- more steps reach more
abbrev pub ReachesGrows : Type 0
ReachesGrows = (grid : Ground) (k n : ℕ) (a b : Cell) → k ≤ n → IsTrue (reaches grid k a b) → IsTrue (reaches grid n a b)
