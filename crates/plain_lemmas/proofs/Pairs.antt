-- Pairs: a relation of the items of two lists, place by place.
use Rattle.std.proofs.Common.{List, [], ◌∷◌}
use Rattle.std.specs.Prelude.{map}
use Rattle.std.specs.List.{AllByRecursion}

-- the lists are as long, and the relation holds at each place
abbrev pub Pairs : {X : Type 0} → (R : X → X → Type 0) → List X → List X → Type 0
Pairs R [] [] = Unit {0}
Pairs R [] (y ∷ ys) = ⊥
Pairs R (x ∷ xs) [] = ⊥
Pairs R (x ∷ xs) (y ∷ ys) = R x y × Pairs R xs ys

-- of a list and itself, where each item has it to itself
pub pairs_same : {X : Type 0} (R : X → X → Type 0) → ((x : X) → R x x) → (xs : List X) → Pairs R xs xs
pairs_same R k [] = tt
pairs_same R k (x ∷ xs) = (k x, pairs_same R k xs)

-- of three lists one after another
pub pairs_then : {X : Type 0} (R : X → X → Type 0) → ((x y z : X) → R x y → R y z → R x z) → (xs ys zs : List X) → Pairs R xs ys → Pairs R ys zs → Pairs R xs zs
pairs_then R k [] [] [] a b = tt
pairs_then R k [] [] (z ∷ zs) a b = b
pairs_then R k [] (y ∷ ys) zs a b = absurd a
pairs_then R k (x ∷ xs) [] zs a b = absurd a
pairs_then R k (x ∷ xs) (y ∷ ys) [] a b = b
pairs_then R k (x ∷ xs) (y ∷ ys) (z ∷ zs) a b = (k x y z a.0 b.0, pairs_then R k xs ys zs a.1 b.1)

-- of a list of which each item is changed
pub pairs_map : {X : Type 0} (R : X → X → Type 0) (f : X → X) → ((x : X) → R x (f x)) → (xs : List X) → Pairs R xs (map f xs)
pairs_map R f k [] = tt
pairs_map R f k (x ∷ xs) = (k x, pairs_map R f k xs)

-- what the relation keeps holds of each item of the one list where it holds of each of the other
pub pairs_each : {X : Type 0} (R : X → X → Type 0) (P : X → Type 0) → ((x y : X) → R x y → P x → P y) → (xs ys : List X) → Pairs R xs ys → AllByRecursion P xs → AllByRecursion P ys
pairs_each R P k [] [] a e = tt
pairs_each R P k [] (y ∷ ys) a e = absurd a
pairs_each R P k (x ∷ xs) [] a e = absurd a
pairs_each R P k (x ∷ xs) (y ∷ ys) a e = (k x y a.0 e.0, pairs_each R P k xs ys a.1 e.1)
