-- Ordered: the frames of slots in the order in which they came.
use Rattle.std.proofs.Common.{◌≡◌, ℕ, zero, suc, ◌<◌, List, [], ◌∷◌, ◌++◌, length, set, refl, Bool, true, false, ◌∙◌, ap, subst, arith, Option, Some, None}
use Rattle.std.specs.Prelude.{nat_lt, if◌then◌else◌}
use Rattle.std.specs.Option.{option_or}
use Rattle.std.proofs.lemmas.Bool.{cond-false, cond-true, le-ltb, lt-ltb}
use Rattle.definitions.specs.Lists.{EachIs, first_of}
use Rattle.peer_window.specs.declared.received.Received.{Received}
use Rattle.peer_window.specs.Slots.{in_order, insert, slot}

-- all of these came before it
abbrev pub AllBefore : ℕ → List Received → Type 0
AllBefore entry rs = EachIs (λ r. r.entry < entry) rs

insert_append : (r x : Received) (xs : List Received) → x.entry < r.entry → insert x (xs ++ r ∷ []) ≡ insert x xs ++ r ∷ []
insert_append r x [] lt = cond-true (nat_lt x.entry r.entry) _ _ (lt-ltb x.entry r.entry lt)
insert_append r x (y ∷ ys) lt = go (nat_lt x.entry y.entry) (insert_append r x ys lt)
  where
    go : (b : Bool) → insert x (ys ++ r ∷ []) ≡ insert x ys ++ r ∷ [] → (if b then x ∷ y ∷ (ys ++ r ∷ []) else y ∷ insert x (ys ++ r ∷ [])) ≡ (if b then x ∷ y ∷ ys else y ∷ insert x ys) ++ r ∷ []
    go true ih = refl
    go false ih = ap (λ (zs : List Received). y ∷ zs) ih

insert_last : (r : Received) (xs : List Received) → AllBefore r.entry xs → insert r xs ≡ xs ++ r ∷ []
insert_last r [] h = refl
insert_last r (x ∷ xs) h =
    let first = h.0 in
    cond-false (nat_lt r.entry x.entry) _ _ (le-ltb r.entry x.entry (omega arith)) ∙ ap (λ (zs : List Received). x ∷ zs) (insert_last r xs h.1)

each_insert : (P : Received → Type 0) (r : Received) (xs : List Received) → EachIs P (insert r xs) → P r × EachIs P xs
each_insert P r [] h = (h.0, tt)
each_insert P r (x ∷ xs) h = go (nat_lt r.entry x.entry) h (each_insert P r xs)
  where
    go : (b : Bool) → EachIs P (if b then r ∷ x ∷ xs else x ∷ insert r xs) → (EachIs P (insert r xs) → P r × EachIs P xs) → P r × EachIs P (x ∷ xs)
    go true h ih = (h.0, h.1)
    go false h ih = let w = ih h.1 in (w.0, (h.0, w.1))

-- a frame that came last, put into an empty slot, stands behind the others
pub in_order_set : (ss : List (Option Received)) (p : ℕ) (r : Received) → p < length ss → slot ss p ≡ None → AllBefore r.entry (in_order ss) →
    in_order (set ss p (Some r)) ≡ in_order ss ++ r ∷ []
in_order_set [] p r lt none before = absurd (omega arith)
in_order_set (None ∷ ss) zero r lt none before = insert_last r (in_order ss) before
in_order_set (Some x ∷ ss) zero r lt none before = absurd (cc)
in_order_set (None ∷ ss) (suc p) r lt none before = in_order_set ss p r (omega arith) none before
in_order_set (Some x ∷ ss) (suc p) r lt none before =
    let w = each_insert (λ y. y.entry < r.entry) x (in_order ss) before in
    ap (insert x) (in_order_set ss p r (omega arith) none w.1) ∙ insert_append r x (in_order ss) w.0

-- what a function gives of the slot, where there is a frame
abbrev pub of_slot : {Y : Type 0} → (Received → Option Y) → Option Received → Option Y
of_slot f None = None
of_slot f (Some r) = f r

first_skip : {Y : Type 0} (f : Received → Option Y) (r : Received) (xs : List Received) → f r ≡ None → first_of f (insert r xs) ≡ first_of f xs
first_skip f r [] none = ap (λ o. option_or o None) none
first_skip f r (x ∷ xs) none = go (nat_lt r.entry x.entry) (first_skip f r xs none)
  where
    go : (b : Bool) → first_of f (insert r xs) ≡ first_of f xs → first_of f (if b then r ∷ x ∷ xs else x ∷ insert r xs) ≡ first_of f (x ∷ xs)
    go true ih = ap (λ o. option_or o (first_of f (x ∷ xs))) none
    go false ih = ap (option_or (f x)) ih

option_or_none : {Y : Type 0} (o : Option Y) → option_or o None ≡ o
option_or_none None = refl
option_or_none (Some y) = refl

first_nothing : {Y : Type 0} (f : Received → Option Y) (r : Received) (xs : List Received) → EachIs (λ x. f x ≡ None) xs → first_of f (insert r xs) ≡ f r
first_nothing f r [] h = option_or_none (f r)
first_nothing {Y} f r (x ∷ xs) h = go (nat_lt r.entry x.entry) (first_nothing f r xs h.1)
  where
    nothing : (ys : List Received) → EachIs (λ y. f y ≡ None) ys → first_of f ys ≡ None
    nothing [] w = refl
    nothing (y ∷ ys) w = ap (λ o. option_or o (first_of f ys)) w.0 ∙ nothing ys w.1

    go : (b : Bool) → first_of f (insert r xs) ≡ f r → first_of f (if b then r ∷ x ∷ xs else x ∷ insert r xs) ≡ f r
    go true ih = ap (option_or (f r)) (nothing (x ∷ xs) h) ∙ option_or_none (f r)
    go false ih = ap (λ o. option_or o (first_of f (insert r xs))) h.0 ∙ ih

pub insert_each : (P : Received → Type 0) (r : Received) (xs : List Received) → P r → EachIs P xs → EachIs P (insert r xs)
insert_each P r [] a h = (a, tt)
insert_each P r (x ∷ xs) a h = go (nat_lt r.entry x.entry) (insert_each P r xs a h.1)
  where
    go : (b : Bool) → EachIs P (insert r xs) → EachIs P (if b then r ∷ x ∷ xs else x ∷ insert r xs)
    go true ih = (a, h)
    go false ih = (h.0, ih)

-- what holds of each frame in a slot holds of each in order
pub each_in_order : (P : Received → Type 0) (ss : List (Option Received)) → ((p : ℕ) (r : Received) → slot ss p ≡ Some r → P r) → EachIs P (in_order ss)
each_in_order P [] h = tt
each_in_order P (None ∷ ss) h = each_in_order P ss (λ p r e. h (suc p) r e)
each_in_order P (Some x ∷ ss) h = insert_each P x (in_order ss) (h 0 x refl) (each_in_order P ss (λ p r e. h (suc p) r e))

pub slot_each : (P : Received → Type 0) (ss : List (Option Received)) (p : ℕ) (r : Received) → EachIs P (in_order ss) → slot ss p ≡ Some r → P r
slot_each P [] p r h e = absurd (let none : None ≡ Some r = e in cc)
slot_each P (None ∷ ss) zero r h e = absurd (let none : None ≡ Some r = e in cc)
slot_each P (None ∷ ss) (suc p) r h e = slot_each P ss p r h e
slot_each P (Some x ∷ ss) zero r h e = let same : x ≡ r = cc in subst P same (each_insert P x (in_order ss) h).0
slot_each P (Some x ∷ ss) (suc p) r h e = slot_each P ss p r (each_insert P x (in_order ss) h).1 e

-- the first that a function gives, where one slot alone may give any
pub first_only : {Y : Type 0} (f : Received → Option Y) (ss : List (Option Received)) (p : ℕ) →
    ((i : ℕ) (r : Received) → slot ss i ≡ Some r → (i ≡ p → ⊥) → f r ≡ None) → first_of f (in_order ss) ≡ of_slot f (slot ss p)
first_only f [] p h = refl
first_only f (None ∷ ss) zero h = nowhere (in_order ss) (each_in_order (λ r. f r ≡ None) ss (λ i r e. h (suc i) r e (λ z. omega arith)))
  where
    nowhere : (ys : List Received) → EachIs (λ y. f y ≡ None) ys → first_of f ys ≡ None
    nowhere [] w = refl
    nowhere (y ∷ ys) w = ap (λ o. option_or o (first_of f ys)) w.0 ∙ nowhere ys w.1
first_only f (Some x ∷ ss) zero h = first_nothing f x (in_order ss) (each_in_order (λ r. f r ≡ None) ss (λ i r e. h (suc i) r e (λ z. omega arith)))
first_only f (None ∷ ss) (suc p) h = first_only f ss p (λ i r e apart. h (suc i) r e (λ z. apart (omega arith)))
first_only f (Some x ∷ ss) (suc p) h =
    first_skip f x (in_order ss) (h 0 x refl (λ z. omega arith)) ∙ first_only f ss p (λ i r e apart. h (suc i) r e (λ z. apart (omega arith)))
