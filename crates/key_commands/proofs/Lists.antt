-- Lists: lists item by item, and lists of what may be there of which one item was put.
use Rattle.std.proofs.Common.{◌≡◌, ◌≤◌, ℕ, zero, suc, ◌+◌, List, [], ◌∷◌, ◌++◌, Option, None, Some, drop, refl, ap, sym, ◌∙◌, add-one, arith}
use Rattle.std.specs.Prelude.{flat_map, replicate, slice_get, slice_set}
use Rattle.definitions.specs.Lists.{item_or}

-- the items from one on: it, and those after it
pub drop_some : {X : Type 0} (xs : List X) (i : ℕ) (x : X) → slice_get xs i ≡ Some x → drop i xs ≡ x ∷ drop (suc i) xs
drop_some [] i x e = absurd cc
drop_some (y ∷ ys) zero x e = let same : y ≡ x = cc in ap (λ z. z ∷ ys) same
drop_some (y ∷ ys) (suc i) x e = drop_some ys i x e

-- none from past the last on
pub drop_none : {X : Type 0} (xs : List X) (i : ℕ) → slice_get xs i ≡ None → drop i xs ≡ []
drop_none [] zero e = refl
drop_none [] (suc i) e = refl
drop_none (y ∷ ys) zero e = absurd cc
drop_none (y ∷ ys) (suc i) e = drop_none ys i e

-- what is made of the items from one on
pub flat_some : {X : Type 0} (f : X → List ℕ) (xs : List X) (i : ℕ) (x : X) → slice_get xs i ≡ Some x → flat_map f (drop i xs) ≡ f x ++ flat_map f (drop (i + 1) xs)
flat_some f xs i x e = ap (flat_map f) (drop_some xs i x e) ∙ ap (λ (k : ℕ). f x ++ flat_map f (drop k xs)) (sym (add-one i))

pub flat_none : {X : Type 0} (f : X → List ℕ) (xs : List X) (i : ℕ) → slice_get xs i ≡ None → flat_map f (drop i xs) ≡ []
flat_none f xs i e = ap (flat_map f) (drop_none xs i e)

-- where there is none at a place, there is none after it
none_past : {X : Type 0} (xs : List X) (i : ℕ) → slice_get xs i ≡ None → slice_get xs (suc i) ≡ None
none_past [] zero e = refl
none_past [] (suc i) e = refl
none_past (y ∷ ys) zero e = absurd cc
none_past (y ∷ ys) (suc i) e = none_past ys i e

pub flat_past : {X : Type 0} (f : X → List ℕ) (xs : List X) (i : ℕ) → slice_get xs i ≡ None → flat_map f (drop (i + 1) xs) ≡ []
flat_past f xs i e = ap (λ (k : ℕ). flat_map f (drop k xs)) (add-one i) ∙ flat_none f xs (suc i) (none_past xs i e)

-- none in a list of none
pub none_in : {X : Type 0} (n k : ℕ) → item_or (replicate n (let none : Option X = None in none)) k None ≡ None
none_in zero k = refl
none_in (suc n) zero = refl
none_in (suc n) (suc k) = none_in n k

-- an item past the one that was put
pub past_put : {X : Type 0} (xs : List (Option X)) (i k : ℕ) (x : Option X) → i + 1 ≤ k → item_or (slice_set xs i x) k None ≡ item_or xs k None
past_put [] i k x past = refl
past_put (y ∷ ys) zero zero x past = absurd (omega (arith, past))
past_put (y ∷ ys) zero (suc k) x past = refl
past_put (y ∷ ys) (suc i) zero x past = absurd (omega (arith, past))
past_put (y ∷ ys) (suc i) (suc k) x past = past_put ys i k x (omega (arith, past))
