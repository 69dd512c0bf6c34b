-- Keys: an item of a list whose items have keys that differ, found and put by its key.
use Rattle.std.proofs.Common.{◌≡◌, ℕ, zero, suc, Bool, true, false, refl, sym, ap, subst, ◌∙◌, List, [], ◌∷◌, slice_set}
use Rattle.std.specs.Prelude.{Some, ◌==◌, find, map, slice_get, if◌then◌else◌}
use Rattle.std.proofs.lemmas.Bool.{eqb-true, eq-eqb}
use Rattle.loop_rules.specs.Told.{HasNone, DiffersBy}

not_key : {X : Type 0} (key : X → ℕ) (n : ℕ) (x : X) → (key x ≡ n → ⊥) → (key x == n) ≡ false
not_key key n x d = go (key x == n) refl
  where
    go : (b : Bool) → (key x == n) ≡ b → b ≡ false
    go true e = absurd (d (eqb-true (key x) n e))
    go false e = refl

-- nothing changes where none has the key
pub none_changed : {X : Type 0} (key : X → ℕ) (n : ℕ) (f : X → X) (xs : List X) → HasNone key n xs → map (λ y. if key y == n then f y else y) xs ≡ xs
none_changed key n f [] h = refl
none_changed key n f (x ∷ xs) h =
    ap (λ (b : Bool). (if b then f x else x) ∷ map (λ y. if key y == n then f y else y) xs) (not_key key n x h.0)
    ∙ ap (λ ys. x ∷ ys) (none_changed key n f xs h.1)

-- an item behind has another key than the first
behind_first : {X : Type 0} (key : X → ℕ) (n : ℕ) (xs : List X) (k : ℕ) (x : X) → HasNone key n xs → slice_get xs k ≡ Some x → key x ≡ n → ⊥
behind_first key n [] k x h g e = cc
behind_first key n (y ∷ ys) zero x h g e = h.0 ((let q : y ≡ x = cc in ap key q) ∙ e)
behind_first key n (y ∷ ys) (suc k) x h g e = behind_first key n ys k x h.1 g e

pub put_at : {X : Type 0} (key : X → ℕ) (n : ℕ) (f : X → X) (xs : List X) (k : ℕ) (x : X) → DiffersBy key xs → slice_get xs k ≡ Some x → key x ≡ n →
    slice_set xs k (f x) ≡ map (λ y. if key y == n then f y else y) xs
put_at key n f [] k x d g e = absurd (cc)
put_at key n f (y ∷ ys) zero x d g e =
    let q : y ≡ x = cc in
    let here : (key y == n) ≡ true = eq-eqb (key y) n (ap key q ∙ e) in
    let none : HasNone key n ys = subst (λ (i : ℕ). HasNone key i ys) (ap key q ∙ e) d.0 in
    ap (λ z. f z ∷ ys) (sym q) ∙ sym (ap (λ (b : Bool). (if b then f y else y) ∷ map (λ z. if key z == n then f z else z) ys) here ∙ ap (λ zs. f y ∷ zs) (none_changed key n f ys none))
put_at key n f (y ∷ ys) (suc k) x d g e =
    let other : (key y == n) ≡ false = not_key key n y (λ q. behind_first key (key y) ys k x d.0 g (e ∙ sym q)) in
    ap (λ zs. y ∷ zs) (put_at key n f ys k x d.1 g e) ∙ sym (ap (λ (b : Bool). (if b then f y else y) ∷ map (λ z. if key z == n then f z else z) ys) other)

pub found_at : {X : Type 0} (key : X → ℕ) (n : ℕ) (xs : List X) (k : ℕ) (x : X) → DiffersBy key xs → slice_get xs k ≡ Some x → key x ≡ n → find (λ y. key y == n) xs ≡ Some x
found_at key n [] k x d g e = absurd (cc)
found_at key n (y ∷ ys) zero x d g e =
    let q : y ≡ x = cc in
    ap (λ (b : Bool). if b then Some y else find (λ z. key z == n) ys) (eq-eqb (key y) n (ap key q ∙ e)) ∙ ap (λ z. Some z) q
found_at key n (y ∷ ys) (suc k) x d g e =
    let other : (key y == n) ≡ false = not_key key n y (λ q. behind_first key (key y) ys k x d.0 g (e ∙ sym q)) in
    ap (λ (b : Bool). if b then Some y else find (λ z. key z == n) ys) other ∙ found_at key n ys k x d.1 g e
