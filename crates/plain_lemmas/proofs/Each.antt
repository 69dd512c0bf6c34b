-- Each: what holds of each item of a list holds of lists made of it.
use Rattle.std.proofs.Common.{ℕ, zero, suc, ◌<◌, ◌++◌, List, [], ◌∷◌, length, get_or, slice_set, arith}
use Rattle.std.specs.Prelude.{map}
use Rattle.std.specs.List.{AllByRecursion}

-- of two lists, one behind the other
pub each_append : {X : Type 0} (P : X → Type 0) (xs ys : List X) → AllByRecursion P xs → AllByRecursion P ys → AllByRecursion P (xs ++ ys)
each_append P [] ys front back = back
each_append P (x ∷ xs) ys front back = (front.0, each_append P xs ys front.1 back)

-- of a list and of one item more
pub each_push : {X : Type 0} (P : X → Type 0) (xs : List X) (x : X) → AllByRecursion P xs → P x → AllByRecursion P (xs ++ x ∷ [])
each_push P xs x each is = each_append P xs (x ∷ []) each (is, tt)

-- what follows from it holds of each
pub each_kept : {X : Type 0} (P Q : X → Type 0) (xs : List X) → ((x : X) → P x → Q x) → AllByRecursion P xs → AllByRecursion Q xs
each_kept P Q [] f each = tt
each_kept P Q (x ∷ xs) f each = (f x each.0, each_kept P Q xs f each.1)

-- of the item at a place
pub each_get : {X : Type 0} (P : X → Type 0) (xs : List X) (i : ℕ) (d : X) → AllByRecursion P xs → i < length xs → P (get_or xs i d)
each_get P [] i d each lt = absurd (omega arith)
each_get P (x ∷ xs) zero d each lt = each.0
each_get P (x ∷ xs) (suc i) d each lt = each_get P xs i d each.1 (omega arith)

-- of a list of which one item was written
pub each_set : {X : Type 0} (P : X → Type 0) (xs : List X) (i : ℕ) (x : X) → AllByRecursion P xs → P x → AllByRecursion P (slice_set xs i x)
each_set P [] i x each is = tt
each_set P (y ∷ xs) zero x each is = (is, each.1)
each_set P (y ∷ xs) (suc i) x each is = (each.0, each_set P xs i x each.1 is)

-- of what is read of each item, and of the items
pub each_map : {X Y : Type 0} (P : Y → Type 0) (f : X → Y) (xs : List X) → (AllByRecursion P (map f xs) → AllByRecursion (λ x. P (f x)) xs) × (AllByRecursion (λ x. P (f x)) xs → AllByRecursion P (map f xs))
each_map P f [] = (λ each. tt, λ each. tt)
each_map P f (x ∷ xs) = let rest = each_map P f xs in (λ each. (each.0, rest.0 each.1), λ each. (each.0, rest.1 each.1))
