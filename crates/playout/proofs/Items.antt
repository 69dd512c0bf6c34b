-- Items: how the items of a list are read, and a list that grows by what it lacks.
use Rattle.std.proofs.Common.{◌≡◌, ℕ, zero, suc, ◌+◌, ◌<◌, ◌≤◌, List, [], ◌∷◌, ◌++◌, length, take, refl, sym, ap, ◌∙◌, arith}
use Rattle.std.specs.Prelude.{map}
use Rattle.definitions.specs.Lists.{item_or}

-- where the item is there, it doesn't matter what stands for one that isn't
pub item_other : {X : Type 0} (xs : List X) (i : ℕ) (d e : X) → i < length xs → item_or xs i d ≡ item_or xs i e
item_other [] i d e lt = absurd (omega arith)
item_other (x ∷ xs) zero d e lt = refl
item_other (x ∷ xs) (suc i) d e lt = item_other xs i d e (omega arith)

-- past the end no item is there
pub item_past : {X : Type 0} (xs : List X) (i : ℕ) (d : X) → length xs ≤ i → item_or xs i d ≡ d
item_past [] i d le = refl
item_past (x ∷ xs) zero d le = absurd (omega arith)
item_past (x ∷ xs) (suc i) d le = item_past xs i d (omega arith)

pub map_more : {X Y : Type 0} (f : X → Y) (xs : List X) (i : ℕ) (d : X) → i < length xs → map f (take i xs) ++ f (item_or xs i d) ∷ [] ≡ map f (take (i + 1) xs)
map_more f [] i d lt = absurd (omega arith)
map_more f (x ∷ xs) zero d lt = refl
map_more f (x ∷ xs) (suc i) d lt =
    let e : suc i + 1 ≡ suc (i + 1) = omega arith in
    ap (λ ys. f x ∷ ys) (map_more f xs i d (omega arith)) ∙ ap (λ k. map f (take k (x ∷ xs))) (sym e)
