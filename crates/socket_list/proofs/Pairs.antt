-- Pairs: lists of which the one came about from the other, place by place.
use Rattle.std.proofs.Common.{◌≡◌, ℕ, zero, suc, Bool, true, false, refl, sym, ap, subst, ◌∙◌, List, [], ◌∷◌, ◌+◌, arith}
use Rattle.std.specs.Prelude.{Option, Some, None, ◌==◌, cond, find, map, slice_get, if◌then◌else◌}
use Rattle.std.specs.List.{count_by, list_all}
use Rattle.std.proofs.lemmas.Bool.{and_parts, and_from, eqb-true, eq-eqb, false≢true}
use Rattle.std.proofs.lemmas.List.Sums.{sum_by-cons}
use Rattle.plain_lemmas.proofs.Pairs.{Pairs, pairs_map}
use Rattle.definitions.specs.Lists.{EachIs}
use Rattle.loop_rules.specs.Told.{HasNone, DiffersBy}
use Rattle.socket_list.specs.Pairs.{Both}

pub pairs_weaker : {X : Type 0} (R Q : X → X → Type 0) → ((x y : X) → R x y → Q x y) → (xs ys : List X) → Pairs R xs ys → Pairs Q xs ys
pairs_weaker R Q k [] [] a = tt
pairs_weaker R Q k [] (y ∷ ys) a = a
pairs_weaker R Q k (x ∷ xs) [] a = a
pairs_weaker R Q k (x ∷ xs) (y ∷ ys) a = (k x y a.0, pairs_weaker R Q k xs ys a.1)

-- ---- how such a list comes about

-- what is changed is of that kind
pairs_of : {X : Type 0} (P : X → Type 0) (R : X → X → Type 0) (f : X → X) → ((x : X) → P x → R x (f x)) → (xs : List X) → EachIs P xs → Pairs R xs (map f xs)
pairs_of P R f k [] e = tt
pairs_of P R f k (x ∷ xs) e = (k x e.0, pairs_of P R f k xs e.1)

pub pair_if : {X : Type 0} (R : X → X → Type 0) (b : Bool) (x y : X) → (b ≡ true → R x y) → R x x → R x (if b then y else x)
pair_if R true x y k s = k refl
pair_if R false x y k s = s

-- what has the key is changed
pub pairs_key : {X : Type 0} (R : X → X → Type 0) (key : X → ℕ) (n : ℕ) (f : X → X) → ((x : X) → R x x) → ((x : X) → key x ≡ n → R x (f x)) → (xs : List X) →
    Pairs R xs (map (λ x. if key x == n then f x else x) xs)
pairs_key R key n f s k xs = pairs_map R (λ x. if key x == n then f x else x) (λ x. pair_if R (key x == n) x (f x) (λ e. k x (eqb-true (key x) n e)) (s x)) xs

others : {X : Type 0} (key : X → ℕ) (n : ℕ) (x : X) (ys : List X) → HasNone key n ys → EachIs (λ y. key y ≡ n → y ≡ x) ys
others key n x [] h = tt
others key n x (y ∷ ys) h = (λ e. absurd (h.0 e), others key n x ys h.1)

-- what is found by a key is the only item that has it
pub only_one : {X : Type 0} (key : X → ℕ) (n : ℕ) (x : X) (xs : List X) → DiffersBy key xs → find (λ y. key y == n) xs ≡ Some x → EachIs (λ y. key y ≡ n → y ≡ x) xs
only_one key n x [] d e = tt
only_one key n x (y ∷ ys) d e = go (key y == n) refl e (only_one key n x ys d.1)
  where
    go : (b : Bool) → (key y == n) ≡ b → (if b then Some y else find (λ z. key z == n) ys) ≡ Some x → (find (λ z. key z == n) ys ≡ Some x → EachIs (λ z. key z ≡ n → z ≡ x) ys) →
        EachIs (λ z. key z ≡ n → z ≡ x) (y ∷ ys)
    go true w f more = (λ q. (let g : y ≡ x = cc in g), others key n x ys (subst (λ (i : ℕ). HasNone key i ys) (eqb-true (key y) n w) d.0))
    go false w f more = (λ q. absurd (false≢true (sym w ∙ eq-eqb (key y) n q)), more f)

-- an item is put in place of the one that has its key
pub pairs_put : {X : Type 0} (R : X → X → Type 0) (key : X → ℕ) (n m : ℕ) (x z : X) → ((y : X) → R y y) → (xs : List X) → DiffersBy key xs → find (λ y. key y == n) xs ≡ Some x → m ≡ n → R x z →
    Pairs R xs (map (λ y. if key y == m then z else y) xs)
pairs_put R key n m x z s xs d e w r =
    pairs_of (λ y. key y ≡ n → y ≡ x) R (λ y. if key y == m then z else y)
    (λ y p. pair_if R (key y == m) y z (λ q. subst (λ u. R u z) (sym (p (eqb-true (key y) m q ∙ w))) r) (s y)) xs (only_one key n x xs d e)

-- ---- what follows

pub pairs_all : {X : Type 0} (R : X → X → Type 0) (p q : X → Bool) → ((x y : X) → R x y → p x ≡ true → q y ≡ true) → (xs ys : List X) → Pairs R xs ys →
    list_all p xs ≡ true → list_all q ys ≡ true
pairs_all R p q k [] [] a e = refl
pairs_all R p q k [] (y ∷ ys) a e = absurd a
pairs_all R p q k (x ∷ xs) [] a e = absurd a
pairs_all R p q k (x ∷ xs) (y ∷ ys) a e = let w = and_parts (p x) (list_all p xs) e in and_from (q y) (list_all q ys) (k x y a.0 w.0) (pairs_all R p q k xs ys a.1 w.1)

pub count_cons : {X : Type 0} (p : X → Bool) (x : X) (xs : List X) → count_by p (x ∷ xs) ≡ cond (p x) 1 0 + count_by p xs
count_cons p x xs = sum_by-cons (λ y. cond (p y) 1 0) x xs

pub pairs_count : {X : Type 0} (R : X → X → Type 0) (p : X → Bool) → ((x y : X) → R x y → p y ≡ p x) → (xs ys : List X) → Pairs R xs ys → count_by p ys ≡ count_by p xs
pairs_count R p k [] [] a = refl
pairs_count R p k [] (y ∷ ys) a = absurd a
pairs_count R p k (x ∷ xs) [] a = absurd a
pairs_count R p k (x ∷ xs) (y ∷ ys) a =
    let before = count_cons p x xs in
    let behind = count_cons p y ys in
    let here = ap {B = ℕ} (λ (b : Bool). cond b 1 0) (k x y a.0) in
    let more = pairs_count R p k xs ys a.1 in
    omega (arith, before, behind, here, more)

pub pair_at : {X : Type 0} (R : X → X → Type 0) (xs ys : List X) (k : ℕ) (x y : X) → Pairs R xs ys → slice_get xs k ≡ Some x → slice_get ys k ≡ Some y → R x y
pair_at R [] [] k x y a e f = absurd (cc)
pair_at R [] (v ∷ vs) k x y a e f = absurd a
pair_at R (u ∷ us) [] k x y a e f = absurd a
pair_at R (u ∷ us) (v ∷ vs) zero x y a e f =
    let p : u ≡ x = cc in
    let q : v ≡ y = cc in
    subst (λ z. R z y) p (subst (λ z. R u z) q a.0)
pair_at R (u ∷ us) (v ∷ vs) (suc k) x y a e f = pair_at R us vs k x y a.1 e f

-- what is found by a key has it
pub found_has : {X : Type 0} (key : X → ℕ) (n : ℕ) (xs : List X) (x : X) → find (λ y. key y == n) xs ≡ Some x → key x ≡ n
found_has key n [] x e = absurd (cc)
found_has key n (y ∷ ys) x e = go (key y == n) refl e (found_has key n ys x)
  where
    go : (b : Bool) → (key y == n) ≡ b → (if b then Some y else find (λ z. key z == n) ys) ≡ Some x → (find (λ z. key z == n) ys ≡ Some x → key x ≡ n) → key x ≡ n
    go true w f more = ap key (let p : x ≡ y = cc in p) ∙ eqb-true (key y) n w
    go false w f more = more f

-- what is so of each item is so of what is found
pub found_is : {X : Type 0} (P : X → Type 0) (p : X → Bool) (xs : List X) (x : X) → EachIs P xs → find p xs ≡ Some x → P x
found_is P p [] x e f = absurd (cc)
found_is P p (y ∷ ys) x e f = go (p y) f (found_is P p ys x e.1)
  where
    go : (b : Bool) → (if b then Some y else find p ys) ≡ Some x → (find p ys ≡ Some x → P x) → P x
    go true g more = subst P (let q : y ≡ x = cc in q) e.0
    go false g more = more g

-- what is found by a key that stays
pub found_both : {X : Type 0} (R : X → X → Type 0) (key : X → ℕ) (n : ℕ) → ((x y : X) → R x y → key y ≡ key x) → (xs ys : List X) → Pairs R xs ys →
    Both R (find (λ x. key x == n) xs) (find (λ x. key x == n) ys)
found_both R key n k [] [] a = tt
found_both R key n k [] (y ∷ ys) a = absurd a
found_both R key n k (x ∷ xs) [] a = absurd a
found_both R key n k (x ∷ xs) (y ∷ ys) a =
    subst (λ (i : ℕ). Both R (find (λ z. key z == n) (x ∷ xs)) (if i == n then Some y else find (λ z. key z == n) ys)) (sym (k x y a.0)) (go (key x == n) (found_both R key n k xs ys a.1))
  where
    go : (b : Bool) → Both R (find (λ z. key z == n) xs) (find (λ z. key z == n) ys) →
        Both R (if b then Some x else find (λ z. key z == n) xs) (if b then Some y else find (λ z. key z == n) ys)
    go true r = a.0
    go false r = r

pub both_left : {X : Type 0} (R : X → X → Type 0) (o p : Option X) (x : X) → Both R o p → o ≡ Some x → (y : X) × (p ≡ Some y) × R x y
both_left R None None x b e = absurd (cc)
both_left R None (Some y) x b e = absurd b
both_left R (Some z) None x b e = absurd b
both_left R (Some z) (Some y) x b e = (y, refl, subst (λ w. R w y) (let p : z ≡ x = cc in p) b)

pub both_right : {X : Type 0} (R : X → X → Type 0) (o p : Option X) (y : X) → Both R o p → p ≡ Some y → (x : X) × (o ≡ Some x) × R x y
both_right R None None y b e = absurd (cc)
both_right R None (Some z) y b e = absurd b
both_right R (Some x) None y b e = absurd b
both_right R (Some x) (Some z) y b e = (x, refl, subst (λ w. R x w) (let p : z ≡ y = cc in p) b)

-- ---- changes at a place

pub map_at : {X : Type 0} (f : X → X) (xs : List X) (k : ℕ) (x : X) → slice_get xs k ≡ Some x → slice_get (map f xs) k ≡ Some (f x)
map_at f [] k x e = absurd (cc)
map_at f (y ∷ ys) zero x e = ap (λ z. Some (f z)) (let p : y ≡ x = cc in p)
map_at f (y ∷ ys) (suc k) x e = map_at f ys k x e

-- what has the key is changed, and keeps it
pub found_key : {X : Type 0} (key : X → ℕ) (n : ℕ) (f : X → X) → ((x : X) → key x ≡ n → key (f x) ≡ n) → (xs : List X) (x : X) → find (λ y. key y == n) xs ≡ Some x →
    find (λ y. key y == n) (map (λ y. if key y == n then f y else y) xs) ≡ Some (f x)
found_key key n f k [] x e = absurd (cc)
found_key {X} key n f k (y ∷ ys) x e = go (key y == n) refl e (found_key key n f k ys x)
  where
    more : List X
    more = map (λ z. if key z == n then f z else z) ys

    go : (b : Bool) → (key y == n) ≡ b → (if b then Some y else find (λ z. key z == n) ys) ≡ Some x → (find (λ z. key z == n) ys ≡ Some x → find (λ z. key z == n) more ≡ Some (f x)) →
        (if key (if b then f y else y) == n then Some (if b then f y else y) else find (λ z. key z == n) more) ≡ Some (f x)
    go true w g r =
        let same : y ≡ x = cc in
        ap (λ (i : Bool). if i then Some (f y) else find (λ z. key z == n) more) (eq-eqb (key (f y)) n (k y (eqb-true (key y) n w))) ∙ ap (λ z. Some (f z)) same
    go false w g r = ap (λ (i : Bool). if i then Some y else find (λ z. key z == n) more) w ∙ r g
