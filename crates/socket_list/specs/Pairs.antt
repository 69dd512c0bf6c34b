-- Pairs: a relation of what two searches found.
use Rattle.std.specs.Prelude.{Option, Some, None}

-- neither is there, or both are and the relation holds of them
abbrev pub Both : {X : Type 0} → (R : X → X → Type 0) → Option X → Option X → Type 0
Both R None None = Unit {0}
Both R None (Some y) = ⊥
Both R (Some x) None = ⊥
Both R (Some x) (Some y) = R x y
