-- Listing: lemmas on plain lists, and on the tests over them.
use Rattle.std.proofs.Common.{Bool, List, None, Some, [], ap, append_assoc, arith, false, inl, inr, length, length-append, refl, subst, suc, sym, true, zero, ℕ, ◌++◌, ◌+◌, ◌<◌, ◌∙◌, ◌∷◌, ◌≡◌, ◌≤◌, ◌⊎◌}
use Rattle.std.specs.Option.{option_or}
use Rattle.std.proofs.lemmas.List.{map-append}
use Rattle.std.specs.Prelude.{Option, cond, filter_map, find, flat_map, if◌then◌else◌, is_none, is_some, map, slice_get, take, ◌||◌}
use Rattle.std.proofs.lemmas.Bool.{and_from, and_parts, false≢true, or_left, or_right}
use Rattle.std.specs.List.{list_all}
use Rattle.plain_lemmas.proofs.Each.{each_append}
use Rattle.definitions.specs.Lists.{EachIs, is_empty}

pub each_at : {X : Type 0} (P : X → Type 0) (front back : List X) (x : X) → EachIs P (front ++ x ∷ back) → P x
each_at P [] back x h = h.0
each_at P (y ∷ front) back x h = each_at P front back x h.1

pub flat_map_append : {X Y : Type 0} (f : X → List Y) (xs ys : List X) → flat_map f (xs ++ ys) ≡ flat_map f xs ++ flat_map f ys
flat_map_append f [] ys = refl
flat_map_append f (x ∷ xs) ys = ap (λ zs. f x ++ zs) (flat_map_append f xs ys) ∙ sym (append_assoc (f x) (flat_map f xs) (flat_map f ys))

pub append_nil : {X : Type 0} (xs : List X) → xs ++ [] ≡ xs
append_nil [] = refl
append_nil (x ∷ xs) = ap (λ ys. x ∷ ys) (append_nil xs)

pub slice_get_push : {X : Type 0} (xs : List X) (x : X) (t : ℕ) (y : X) → slice_get (xs ++ x ∷ []) t ≡ Some y → (slice_get xs t ≡ Some y) ⊎ ((t ≡ length xs) × (x ≡ y))
slice_get_push [] x zero y h = inr (refl, cc)
slice_get_push [] x (suc t) y h = cc
slice_get_push (z ∷ xs) x zero y h = inl h
slice_get_push (z ∷ xs) x (suc t) y h = go (slice_get_push xs x t y h)
  where
    go : (slice_get xs t ≡ Some y) ⊎ ((t ≡ length xs) × (x ≡ y)) → (slice_get xs t ≡ Some y) ⊎ ((suc t ≡ suc (length xs)) × (x ≡ y))
    go (inl a) = inl a
    go (inr b) = inr (ap suc b.0, b.1)

pub slice_get_front : {X : Type 0} (xs ys : List X) (t : ℕ) (y : X) → slice_get xs t ≡ Some y → slice_get (xs ++ ys) t ≡ Some y
slice_get_front [] ys t y h = cc
slice_get_front (x ∷ xs) ys zero y h = h
slice_get_front (x ∷ xs) ys (suc t) y h = slice_get_front xs ys t y h

pub nothing_more : {X : Type 0} (xs ys zs : List X) → ys ≡ xs ++ zs → length ys ≤ length xs → xs ≡ ys
nothing_more xs ys [] e h = sym (e ∙ append_nil xs)
nothing_more xs ys (z ∷ zs) e h = let l = length-append xs (z ∷ zs) in let m = ap length e in absurd (omega arith)

pub nothing_some : {X : Type 0} (x : X) → None ≡ Some x → ⊥
nothing_some x h = cc

pub take_more : {X : Type 0} (n : ℕ) (xs : List X) (x : X) → slice_get xs n ≡ Some x → take (n + 1) xs ≡ take n xs ++ x ∷ []
take_more n [] x h = absurd (let e : None ≡ Some x = h in cc)
take_more {X} zero (y ∷ xs) x h = let e : y ≡ x = cc in ap (λ (z : X). z ∷ []) e
take_more {X} (suc n) (y ∷ xs) x h =
    ap (λ m. take m (y ∷ xs)) (let e : suc n + 1 ≡ suc (n + 1) = omega arith in e) ∙ ap (λ (zs : List X). y ∷ zs) (take_more n xs x h)

pub map_take_more : {X Y : Type 0} (f : X → Y) (n : ℕ) (xs : List X) (x : X) → slice_get xs n ≡ Some x → map f (take (n + 1) xs) ≡ map f (take n xs) ++ f x ∷ []
map_take_more f n xs x h = ap (map f) (take_more n xs x h) ∙ map-append f (take n xs) (x ∷ [])

pub slice_get_take : {X : Type 0} (n t : ℕ) (xs : List X) → t < n → slice_get (take n xs) t ≡ slice_get xs t
slice_get_take zero t xs h = absurd (omega arith)
slice_get_take (suc n) t [] h = refl
slice_get_take (suc n) zero (x ∷ xs) h = refl
slice_get_take (suc n) (suc t) (x ∷ xs) h = slice_get_take n t xs (omega arith)

pub slice_get_map : {X Y : Type 0} (f : X → Y) (xs : List X) (t : ℕ) (x : X) → slice_get xs t ≡ Some x → slice_get (map f xs) t ≡ Some (f x)
slice_get_map f [] t x h = absurd (let e : None ≡ Some x = h in cc)
slice_get_map {Y = Y} f (y ∷ xs) zero x h = let e : y ≡ x = cc in ap (λ z. Some (f z)) e
slice_get_map f (y ∷ xs) (suc t) x h = slice_get_map f xs t x h

pub list_all_at : {X : Type 0} (p : X → Bool) (xs ys : List X) (x : X) → list_all p (xs ++ x ∷ ys) ≡ true → p x ≡ true
list_all_at p [] ys x h = (and_parts _ _ h).0
list_all_at p (z ∷ xs) ys x h = list_all_at p xs ys x (and_parts _ _ h).1

pub list_all_kept : {X : Type 0} (p q : X → Bool) (xs : List X) → ((x : X) → p x ≡ true → q x ≡ true) → list_all p xs ≡ true → list_all q xs ≡ true
list_all_kept p q [] f h = refl
list_all_kept p q (x ∷ xs) f h = let both = and_parts _ _ h in and_from _ _ (f x both.0) (list_all_kept p q xs f both.1)

pub some_append : {X : Type 0} (xs ys : List X) (t : ℕ) → is_some (slice_get xs t) ≡ true → is_some (slice_get (xs ++ ys) t) ≡ true
some_append [] ys t h = absurd (false≢true h)
some_append (x ∷ xs) ys zero h = refl
some_append (x ∷ xs) ys (suc t) h = some_append xs ys t h

pub some_along : {X : Type 0} (xs ys zs : List X) (t : ℕ) → zs ≡ xs ++ ys → is_some (slice_get xs t) ≡ true → is_some (slice_get zs t) ≡ true
some_along {X} xs ys zs t e h = let P : List X → Type 0 = λ ws. is_some (slice_get ws t) ≡ true in subst P (sym e) (some_append xs ys t h)

pub none_past : {X : Type 0} (xs : List X) (t : ℕ) → is_none (slice_get xs t) ≡ true → length xs ≤ t
none_past [] t h = omega arith
none_past (x ∷ xs) zero h = absurd (false≢true h)
none_past (x ∷ xs) (suc t) h = let r = none_past xs t h in omega arith

pub find_stands : {X : Type 0} (test : X → Bool) (xs : List X) (y : X) → find test xs ≡ Some y →
    (front : List X) × (back : List X) × (xs ≡ front ++ y ∷ back) × (test y ≡ true)
find_stands test [] y h = absurd (let e : None ≡ Some y = h in cc)
find_stands {X} test (x ∷ xs) y h = go (test x) refl h (find_stands test xs y)
  where
    go : (b : Bool) → test x ≡ b → cond b (Some x) (find test xs) ≡ Some y →
        (find test xs ≡ Some y → (front : List X) × (back : List X) × (xs ≡ front ++ y ∷ back) × (test y ≡ true)) →
        (front : List X) × (back : List X) × (x ∷ xs ≡ front ++ y ∷ back) × (test y ≡ true)
    go true e h ih = let same : x ≡ y = cc in ([], xs, ap (λ (z : X). z ∷ xs) same, subst (λ (z : X). test z ≡ true) same e)
    go false e h ih = let r = ih h in (x ∷ r.0, r.1, ap (λ (zs : List X). x ∷ zs) r.2, r.3)

-- no pair passes, where none is found
pub find_none_at : {X : Type 0} (test : X → Bool) (front back : List X) (y : X) → find test (front ++ y ∷ back) ≡ None → test y ≡ false
find_none_at test [] back y h = go (test y) refl h
  where
    go : (b : Bool) → test y ≡ b → cond b (Some y) (find test back) ≡ None → test y ≡ false
    go true e h = absurd (cc)
    go false e h = e
find_none_at test (x ∷ front) back y h = go (test x) h (find_none_at test front back y)
  where
    go : (b : Bool) → cond b (Some x) (find test (front ++ y ∷ back)) ≡ None → (find test (front ++ y ∷ back) ≡ None → test y ≡ false) → test y ≡ false
    go true h ih = absurd (cc)
    go false h ih = ih h

pub first_true : {X : Type 0} (b : Bool) (x : X) (o : Option X) → b ≡ true → option_or (if b then Some x else None) o ≡ Some x
first_true true x o h = refl
first_true false x o h = absurd (false≢true h)

pub first_false : {X : Type 0} (b : Bool) (x : X) (o : Option X) → b ≡ false → option_or (if b then Some x else None) o ≡ o
first_false false x o h = refl
first_false true x o h = absurd (false≢true (sym h))

pub either_kept : (a b a' b' : Bool) → (a ≡ true → a' ≡ true) → (b ≡ true → b' ≡ true) → (a || b) ≡ true → (a' || b') ≡ true
either_kept true b a' b' f g h = or_left _ _ (f refl)
either_kept false b a' b' f g h = or_right a' b' (g h)

-- of two places of a list one is the other, or stands before it
pub split_two : {X : Type 0} (xs xs' : List X) (a b : X) (ys ys' : List X) → xs ++ a ∷ ys ≡ xs' ++ b ∷ ys' →
    (a ≡ b) ⊎ (((between : List X) × (ys ≡ between ++ b ∷ ys')) ⊎ ((between : List X) × (ys' ≡ between ++ a ∷ ys)))
split_two [] [] a b ys ys' e = inl cc
split_two [] (x ∷ xs') a b ys ys' e = inr (inl (xs', cc))
split_two (x ∷ xs) [] a b ys ys' e = inr (inr (xs, cc))
split_two (x ∷ xs) (y ∷ xs') a b ys ys' e = split_two xs xs' a b ys ys' cc

pub EachIs_filter_map : {X Y : Type 0} (P : Y → Type 0) (g : X → Option Y) (xs : List X) → ((x : X) (y : Y) → g x ≡ Some y → P y) → EachIs P (filter_map g xs)
EachIs_filter_map P g [] h = tt
EachIs_filter_map {Y = Y} P g (x ∷ xs) h = go (g x) refl (EachIs_filter_map P g xs h)
  where
    go : (o : Option Y) → g x ≡ o → EachIs P (filter_map g xs) → EachIs P (filter_map g (x ∷ xs))
    go None e ih = rw e ih
    go (Some y) e ih = rw e ((h x y e, ih))

pub EachIs_flat_map : {X Y : Type 0} (P : Y → Type 0) (f : X → List Y) (xs : List X) → ((x : X) → EachIs P (f x)) → EachIs P (flat_map f xs)
EachIs_flat_map P f [] h = tt
EachIs_flat_map P f (x ∷ xs) h = each_append P (f x) (flat_map f xs) (h x) (EachIs_flat_map P f xs h)

-- an empty list, by its test
pub empty_nil : {X : Type 0} (xs : List X) → is_empty xs ≡ true → xs ≡ []
empty_nil [] h = refl
empty_nil (x ∷ xs) h = absurd (false≢true h)

-- the item that was added last
pub slice_get_last : {X : Type 0} (xs : List X) (x : X) → slice_get (xs ++ x ∷ []) (length xs) ≡ Some x
slice_get_last [] x = refl
slice_get_last (y ∷ ys) x = slice_get_last ys x

-- the front of a joined list
pub take_front : {X : Type 0} (xs ys : List X) → take (length xs) (xs ++ ys) ≡ xs
take_front {X} [] [] = refl
take_front {X} [] (y ∷ ys) = refl
take_front {X} (x ∷ xs) ys = ap (λ (zs : List X). x ∷ zs) (take_front xs ys)
