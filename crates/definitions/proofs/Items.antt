-- Items: how those of a list are read, in two words, and through a function.
use Rattle.std.proofs.Common.{◌≡◌, ℕ, zero, suc, ◌<◌, List, [], ◌∷◌, length, refl, arith, get_or}
use Rattle.std.specs.Prelude.{map}
use Rattle.definitions.specs.Lists.{item_or}

-- an item by its place, in two words
pub item_is : {X : Type 0} (xs : List X) (i : ℕ) (d : X) → get_or xs i d ≡ item_or xs i d
item_is [] i d = refl
item_is (x ∷ xs) zero d = refl
item_is (x ∷ xs) (suc i) d = item_is xs i d

-- what is read of the item at a place
pub map_item : {X Y : Type 0} (f : X → Y) (xs : List X) (i : ℕ) (d : X) (e : Y) → i < length xs → item_or (map f xs) i e ≡ f (item_or xs i d)
map_item f [] i d e lt = absurd (omega arith)
map_item f (x ∷ xs) zero d e lt = refl
map_item f (x ∷ xs) (suc i) d e lt = map_item f xs i d e (omega arith)
