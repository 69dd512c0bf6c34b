-- Items: how the items of a list are read, where one of them was written or is one more.
use Rattle.std.proofs.Common.{◌≡◌, ℕ, zero, suc, ◌<◌, List, [], ◌∷◌, ◌++◌, length, refl, ap, arith, sym, ◌∙◌}
use Rattle.std.proofs.lemmas.List.{get_or-set_same}
use Rattle.std.specs.Prelude.{map, slice_set}
use Rattle.definitions.specs.Lists.{item_or}
use Rattle.definitions.proofs.Items.{item_is}

-- what is read of each item, where one of them is another
pub map_set : {X Y : Type 0} (f : X → Y) (xs : List X) (i : ℕ) (x : X) → map f (slice_set xs i x) ≡ slice_set (map f xs) i (f x)
map_set f [] i x = refl
map_set f (y ∷ xs) zero x = refl
map_set f (y ∷ xs) (suc i) x = ap (λ ys. f y ∷ ys) (map_set f xs i x)

pub map_more : {X Y : Type 0} (f : X → Y) (xs : List X) (x : X) → map f (xs ++ x ∷ []) ≡ map f xs ++ f x ∷ []
map_more f [] x = refl
map_more f (y ∷ xs) x = ap (λ ys. f y ∷ ys) (map_more f xs x)

-- an item before what stands behind the list, before the one that is one more, and that one
pub item_front : {X : Type 0} (xs ys : List X) (t : ℕ) (d : X) → t < length xs → item_or (xs ++ ys) t d ≡ item_or xs t d
item_front [] ys t d lt = absurd (omega arith)
item_front (x ∷ xs) ys zero d lt = refl
item_front (x ∷ xs) ys (suc t) d lt = item_front xs ys t d (omega arith)

pub item_before : {X : Type 0} (xs : List X) (x : X) (i : ℕ) (d : X) → i < length xs → item_or (xs ++ x ∷ []) i d ≡ item_or xs i d
item_before xs x i d lt = item_front xs (x ∷ []) i d lt

pub item_last : {X : Type 0} (xs : List X) (x : X) (i : ℕ) (d : X) → i ≡ length xs → item_or (xs ++ x ∷ []) i d ≡ x
item_last [] x zero d here = refl
item_last [] x (suc i) d here = absurd (omega arith)
item_last (y ∷ xs) x zero d here = absurd (omega arith)
item_last (y ∷ xs) x (suc i) d here = item_last xs x i d (omega arith)

-- the item that was written
pub item_set : {X : Type 0} (xs : List X) (i : ℕ) (x d : X) → i < length xs → item_or (slice_set xs i x) i d ≡ x
item_set xs i x d lt = sym (item_is (slice_set xs i x) i d) ∙ get_or-set_same xs i x d lt

-- and the others
pub item_set_other : {X : Type 0} (xs : List X) (i j : ℕ) (x d : X) → (j ≡ i → ⊥) → item_or (slice_set xs i x) j d ≡ item_or xs j d
item_set_other [] i j x d other = refl
item_set_other (y ∷ ys) zero zero x d other = absurd (other refl)
item_set_other (y ∷ ys) zero (suc j) x d other = refl
item_set_other (y ∷ ys) (suc i) zero x d other = refl
item_set_other (y ∷ ys) (suc i) (suc j) x d other = item_set_other ys i j x d (λ e. other (ap suc e))
