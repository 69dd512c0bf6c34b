-- Members: what stands in lists that are made of others.
use Rattle.std.proofs.Common.{Bool, List, None, Some, [], ap, arith, false, inl, inr, refl, subst, suc, sym, true, zero, ℕ, ◌++◌, ◌+◌, ◌<◌, ◌∙◌, ◌∷◌, ◌≡◌, ◌≤◌, ◌⊎◌, Option, slice_get}
use Rattle.std.specs.Prelude.{cond, filter, filter_map, flat_map, map}
use Rattle.std.specs.List.{list_all, range_with_len}
use Rattle.std.proofs.lemmas.Bool.{and_parts, cases_lt}
use Rattle.definitions.specs.Lists.{EachIs}
use Rattle.definition_laws.specs.Members.{Has}

pub Has_front : {X : Type 0} (xs ys : List X) (x : X) → Has xs x → Has (xs ++ ys) x
Has_front [] ys x h = absurd h
Has_front (z ∷ xs) ys x (inl e) = inl e
Has_front (z ∷ xs) ys x (inr h) = inr (Has_front xs ys x h)

pub Has_back : {X : Type 0} (xs ys : List X) (x : X) → Has ys x → Has (xs ++ ys) x
Has_back [] ys x h = h
Has_back (z ∷ xs) ys x h = inr (Has_back xs ys x h)

pub Has_append : {X : Type 0} (xs ys : List X) (x : X) → Has (xs ++ ys) x → Has xs x ⊎ Has ys x
Has_append [] ys x h = inr h
Has_append (z ∷ xs) ys x (inl e) = inl (inl e)
Has_append (z ∷ xs) ys x (inr h) = go (Has_append xs ys x h)
  where
    go : Has xs x ⊎ Has ys x → Has (z ∷ xs) x ⊎ Has ys x
    go (inl a) = inl (inr a)
    go (inr b) = inr b

pub Has_middle : {X : Type 0} (front back : List X) (x : X) → Has (front ++ x ∷ back) x
Has_middle front back x = Has_back front (x ∷ back) x (inl refl)

-- an item stands between what is before it and what is behind it
pub Has_split : {X : Type 0} (xs : List X) (x : X) → Has xs x → (front : List X) × (back : List X) × (xs ≡ front ++ x ∷ back)
Has_split [] x h = absurd h
Has_split {X} (y ∷ ys) x (inl e) = ([], ys, ap (λ (z : X). z ∷ ys) e)
Has_split {X} (y ∷ ys) x (inr h) = let r = Has_split ys x h in (y ∷ r.0, r.1, ap (λ (zs : List X). y ∷ zs) r.2)

-- what holds of each holds of one that stands there
pub Has_each : {X : Type 0} (P : X → Type 0) (xs : List X) (x : X) → EachIs P xs → Has xs x → P x
Has_each P [] x h m = absurd m
Has_each P (y ∷ ys) x h (inl e) = subst P e h.0
Has_each P (y ∷ ys) x h (inr m) = Has_each P ys x h.1 m

-- what holds of all that stand there holds of each
pub each_Has : {X : Type 0} (P : X → Type 0) (xs : List X) → ((x : X) → Has xs x → P x) → EachIs P xs
each_Has P [] f = tt
each_Has P (y ∷ ys) f = (f y (inl refl), each_Has P ys (λ x h. f x (inr h)))

pub Has_flat_map : {X Y : Type 0} (f : X → List Y) (xs : List X) (x : X) (y : Y) → Has xs x → Has (f x) y → Has (flat_map f xs) y
Has_flat_map f [] x y h k = absurd h
Has_flat_map {X} {Y} f (z ∷ xs) x y (inl e) k = Has_front (f z) (flat_map f xs) y (subst (λ (w : X). Has (f w) y) (sym e) k)
Has_flat_map f (z ∷ xs) x y (inr h) k = Has_back (f z) (flat_map f xs) y (Has_flat_map f xs x y h k)

pub flat_map_Has : {X Y : Type 0} (f : X → List Y) (xs : List X) (y : Y) → Has (flat_map f xs) y → (x : X) × Has xs x × Has (f x) y
flat_map_Has f [] y h = absurd h
flat_map_Has {X} f (z ∷ xs) y h = go (Has_append (f z) (flat_map f xs) y h) (flat_map_Has f xs y)
  where
    go : Has (f z) y ⊎ Has (flat_map f xs) y → (Has (flat_map f xs) y → (x : X) × Has xs x × Has (f x) y) → (x : X) × Has (z ∷ xs) x × Has (f x) y
    go (inl a) ih = (z, inl refl, a)
    go (inr b) ih = let r = ih b in (r.0, inr r.1, r.2)

pub Has_filter_map : {X Y : Type 0} (f : X → Option Y) (xs : List X) (x : X) (y : Y) → Has xs x → f x ≡ Some y → Has (filter_map f xs) y
Has_filter_map f [] x y h k = absurd h
Has_filter_map {X} {Y} f (z ∷ xs) x y (inl e) k = let at : f z ≡ Some y = ap f e ∙ k in rw at (inl refl)
Has_filter_map {X} {Y} f (z ∷ xs) x y (inr h) k = go (f z) refl (Has_filter_map f xs x y h k)
  where
    go : (o : Option Y) → f z ≡ o → Has (filter_map f xs) y → Has (filter_map f (z ∷ xs)) y
    go None e m = rw e m
    go (Some w) e m = rw e (inr m)

pub map_Has : {X Y : Type 0} (f : X → Y) (xs : List X) (y : Y) → Has (map f xs) y → (x : X) × Has xs x × (f x ≡ y)
map_Has f [] y h = absurd h
map_Has f (x ∷ xs) y (inl e) = (x, inl refl, e)
map_Has f (x ∷ xs) y (inr h) = let r = map_Has f xs y h in (r.0, inr r.1, r.2)

pub filter_map_Has : {X Y : Type 0} (f : X → Option Y) (xs : List X) (y : Y) → Has (filter_map f xs) y → (x : X) × Has xs x × (f x ≡ Some y)
filter_map_Has f [] y h = absurd h
filter_map_Has {X} {Y} f (z ∷ xs) y h = go (rest (f z) refl h) (filter_map_Has f xs y)
  where
    rest : (o : Option Y) → f z ≡ o → Has (filter_map f (z ∷ xs)) y → (f z ≡ Some y) ⊎ Has (filter_map f xs) y
    rest None e m = inr (rw e at m)
    rest (Some w) e m = turn (rw e at m)
      where
        turn : (w ≡ y) ⊎ Has (filter_map f xs) y → (f z ≡ Some y) ⊎ Has (filter_map f xs) y
        turn (inl a) = inl (e ∙ ap (λ (v : Y). Some v) a)
        turn (inr b) = inr b

    go : (f z ≡ Some y) ⊎ Has (filter_map f xs) y → (Has (filter_map f xs) y → (x : X) × Has xs x × (f x ≡ Some y)) → (x : X) × Has (z ∷ xs) x × (f x ≡ Some y)
    go (inl a) ih = (z, inl refl, a)
    go (inr b) ih = let r = ih b in (r.0, inr r.1, r.2)

pub Has_range : (a n i : ℕ) → a ≤ i → i < a + n → Has (range_with_len a n) i
Has_range a zero i le lt = absurd (omega arith)
Has_range a (suc n) i le lt = go (cases_lt a i) (Has_range (a + 1) n i)
  where
    go : (a < i) ⊎ (i ≤ a) → (a + 1 ≤ i → i < a + 1 + n → Has (range_with_len (a + 1) n) i) → (a ≡ i) ⊎ Has (range_with_len (a + 1) n) i
    go (inl h) ih = inr (ih (omega arith) (omega arith))
    go (inr h) ih = inl (omega arith)

pub range_Has : (a n i : ℕ) → Has (range_with_len a n) i → (a ≤ i) × (i < a + n)
range_Has a zero i h = absurd h
range_Has a (suc n) i (inl e) = (omega arith, omega arith)
range_Has a (suc n) i (inr h) = let r = range_Has (a + 1) n i h in let x = r.0 in let y = r.1 in (omega arith, omega arith)

pub Has_filter : {X : Type 0} (p : X → Bool) (xs : List X) (x : X) → Has xs x → p x ≡ true → Has (filter p xs) x
Has_filter p [] x h k = absurd h
Has_filter {X} p (z ∷ xs) x (inl e) k = let at : p z ≡ true = ap p e ∙ k in rw at (inl e)
Has_filter {X} p (z ∷ xs) x (inr h) k = go (p z) (Has_filter p xs x h k)
  where
    go : (b : Bool) → Has (filter p xs) x → Has (cond b (z ∷ filter p xs) (filter p xs)) x
    go true m = inr m
    go false m = m

pub list_all_Has : {X : Type 0} (p : X → Bool) (xs : List X) (x : X) → list_all p xs ≡ true → Has xs x → p x ≡ true
list_all_Has p [] x h m = absurd m
list_all_Has p (y ∷ ys) x h (inl e) = ap p (sym e) ∙ (and_parts _ _ h).0
list_all_Has p (y ∷ ys) x h (inr m) = list_all_Has p ys x (and_parts _ _ h).1 m

-- an item at a place stands there
pub slice_get_Has : {X : Type 0} (xs : List X) (i : ℕ) (x : X) → slice_get xs i ≡ Some x → Has xs x
slice_get_Has [] i x h = absurd (let e : None ≡ Some x = h in cc)
slice_get_Has (y ∷ ys) zero x h = inl cc
slice_get_Has (y ∷ ys) (suc i) x h = inr (slice_get_Has ys i x h)

pub Has_slice_get : {X : Type 0} (xs : List X) (x : X) → Has xs x → (i : ℕ) × (slice_get xs i ≡ Some x)
Has_slice_get [] x h = absurd h
Has_slice_get {X} (y ∷ ys) x (inl e) = (0, ap (λ (z : X). Some z) e)
Has_slice_get (y ∷ ys) x (inr h) = let r = Has_slice_get ys x h in (suc r.0, r.1)
