-- Lists: one item of a list is set.
use Rattle.std.proofs.Common.{◌≡◌, ℕ, zero, suc, ◌+◌, ◌++◌, ◌<◌, ◌≤◌, Bool, true, false, List, [], ◌∷◌, length, refl, sym, ap, ◌∙◌, arith, slice_set}
use Rattle.std.specs.Prelude.{Option, None, Some, ◌&&◌, map, replicate, slice_get}
use Rattle.std.specs.List.{list_all, range_with_len}
use Rattle.definitions.specs.Lists.{item_or}

pub set_here : {X : Type 0} (xs : List X) (k : ℕ) (x : X) → k < length xs → slice_get (slice_set xs k x) k ≡ Some x
set_here [] k x lt = absurd (omega (arith, lt))
set_here (y ∷ ys) zero x lt = refl
set_here (y ∷ ys) (suc k) x lt = set_here ys k x (omega (arith, lt))

pub set_beside : {X : Type 0} (xs : List X) (k i : ℕ) (x : X) → (i ≡ k → ⊥) → slice_get (slice_set xs k x) i ≡ slice_get xs i
set_beside [] k i x n = refl
set_beside (y ∷ ys) zero zero x n = absurd (n refl)
set_beside (y ∷ ys) zero (suc i) x n = refl
set_beside (y ∷ ys) (suc k) zero x n = refl
set_beside (y ∷ ys) (suc k) (suc i) x n = set_beside ys k i x (λ e. n (ap suc e))

pub set_same : {X : Type 0} (xs : List X) (k : ℕ) (x : X) → slice_get xs k ≡ Some x → slice_set xs k x ≡ xs
set_same [] k x g = refl
set_same (y ∷ ys) zero x g = let e : x ≡ y = cc in ap (λ z. z ∷ ys) e
set_same (y ∷ ys) (suc k) x g = ap (λ zs. y ∷ zs) (set_same ys k x g)

pub get_front : {X : Type 0} (xs ys : List X) (i : ℕ) (x : X) → slice_get xs i ≡ Some x → slice_get (xs ++ ys) i ≡ Some x
get_front [] ys i x e = absurd (let none : None ≡ Some x = e in cc)
get_front (y ∷ xs) ys zero x e = e
get_front (y ∷ xs) ys (suc i) x e = get_front xs ys i x e

pub item_beside : {X : Type 0} (xs : List X) (k i : ℕ) (x d : X) → (i ≡ k → ⊥) → item_or (slice_set xs k x) i d ≡ item_or xs i d
item_beside [] k i x d n = refl
item_beside (y ∷ ys) zero zero x d n = absurd (n refl)
item_beside (y ∷ ys) zero (suc i) x d n = refl
item_beside (y ∷ ys) (suc k) zero x d n = refl
item_beside (y ∷ ys) (suc k) (suc i) x d n = item_beside ys k i x d (λ e. n (ap suc e))

pub same_get : {X : Type 0} (o : Option X) (x y : X) → o ≡ Some x → o ≡ Some y → x ≡ y
same_get o x y a b = let e : Some x ≡ Some y = sym a ∙ b in cc

-- ---- repeated items

pub repeated_is : {X : Type 0} (n k : ℕ) (x y : X) → slice_get (replicate n x) k ≡ Some y → y ≡ x
repeated_is zero k x y g = absurd (cc)
repeated_is (suc n) zero x y g = let e : y ≡ x = cc in e
repeated_is (suc n) (suc k) x y g = repeated_is n k x y g

pub repeated_map : {X Y : Type 0} (f : X → Y) (n : ℕ) (x : X) → map f (replicate n x) ≡ replicate n (f x)
repeated_map f zero x = refl
repeated_map f (suc n) x = ap (λ ys. f x ∷ ys) (repeated_map f n x)

pub repeated_item : {X : Type 0} (n k : ℕ) (x : X) → item_or (replicate n x) k x ≡ x
repeated_item zero k x = refl
repeated_item (suc n) zero x = refl
repeated_item (suc n) (suc k) x = repeated_item n k x

-- ---- tests of all numbers of a range

pub all_in : (p : ℕ → Bool) (a n : ℕ) → ((k : ℕ) → a ≤ k → k < a + n → p k ≡ true) → list_all p (range_with_len a n) ≡ true
all_in p a zero f = refl
all_in p a (suc n) f =
    ap (λ (b : Bool). b && list_all p (range_with_len (a + 1) n)) (f a (omega arith) (omega arith))
    ∙ all_in p (a + 1) n (λ k le lt. f k (omega (arith, le)) (omega (arith, lt)))

pub not_all : (p : ℕ → Bool) (a n k : ℕ) → a ≤ k → k < a + n → p k ≡ false → list_all p (range_with_len a n) ≡ false
not_all p a zero k le lt e = absurd (omega (arith, le, lt))
not_all p a (suc n) k le lt e = go (p a) refl (λ more. not_all p (a + 1) n k more (omega (arith, lt)) e)
  where
    go : (b : Bool) → p a ≡ b → (a + 1 ≤ k → list_all p (range_with_len (a + 1) n) ≡ false) → (p a && list_all p (range_with_len (a + 1) n)) ≡ false
    go false h r = ap (λ (b : Bool). b && list_all p (range_with_len (a + 1) n)) h
    go true h r = ap (λ (b : Bool). b && list_all p (range_with_len (a + 1) n)) h ∙ r (later (λ q. absurd (let x : true ≡ false = sym h ∙ ap p (sym q) ∙ e in cc)))
      where
        later : (k ≡ a → ⊥) → a + 1 ≤ k
        later n = omega (arith, le, n)

pub all_as : (p q : ℕ → Bool) (a n : ℕ) → ((k : ℕ) → k < a + n → p k ≡ q k) → list_all p (range_with_len a n) ≡ list_all q (range_with_len a n)
all_as p q a zero f = refl
all_as p q a (suc n) f =
    ap (λ (b : Bool). b && list_all p (range_with_len (a + 1) n)) (f a (omega arith))
    ∙ ap (λ (b : Bool). q a && b) (all_as p q (a + 1) n (λ k lt. f k (omega (arith, lt))))
