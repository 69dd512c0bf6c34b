-- Picked: what a function gives of numbers one behind the other.
use Rattle.std.proofs.Common.{List, None, Some, [], add-zero, ap, arith, refl, subst, suc, sym, zero, ℕ, ◌+◌, ◌<◌, ◌≤◌, ◌∙◌, ◌∷◌, ◌≡◌, Option, length, slice_get}
use Rattle.std.specs.Prelude.{filter_map}
use Rattle.std.specs.List.{cons_option, range_with_len}
use Rattle.definitions.specs.Lists.{EachIs}

-- lists that have the same at each place are the same
pub same_items : {X : Type 0} (xs ys : List X) → ((i : ℕ) → slice_get xs i ≡ slice_get ys i) → xs ≡ ys
same_items [] [] h = refl
same_items [] (y ∷ ys) h = absurd (let none : None ≡ Some y = h 0 in cc)
same_items (x ∷ xs) [] h = absurd (let none : Some x ≡ None = h 0 in cc)
same_items (x ∷ xs) (y ∷ ys) h =
    let some : Some x ≡ Some y = h 0 in
    let one : x ≡ y = cc in
    let rest = same_items xs ys (λ i. h (suc i)) in
    (λ i. one i ∷ rest i)

pub length_range : (a n : ℕ) → length (range_with_len a n) ≡ n
length_range a zero = refl
length_range a (suc n) = ap suc (length_range (a + 1) n)

pub picked_few : {X : Type 0} (f : ℕ → Option X) (a n : ℕ) → length (filter_map f (range_with_len a n)) ≤ n
picked_few f a zero = omega arith
picked_few {X} f a (suc n) = go (f a) (picked_few f (a + 1) n)
  where
    go : (o : Option X) → length (filter_map f (range_with_len (a + 1) n)) ≤ n → length (cons_option o (filter_map f (range_with_len (a + 1) n))) ≤ suc n
    go None r = omega arith
    go (Some x) r = omega arith

next_is : {X : Type 0} (f : ℕ → X) (a i : ℕ) → f (a + 1 + i) ≡ f (a + suc i)
next_is f a i = ap f (let e : a + 1 + i ≡ a + suc i = omega arith in e)

-- where it gives as much as there are numbers, it gives something of each
pub picked_all : {X : Type 0} (f : ℕ → Option X) (a n : ℕ) → length (filter_map f (range_with_len a n)) ≡ n → (i : ℕ) → i < n → slice_get (filter_map f (range_with_len a n)) i ≡ f (a + i)
picked_all f a zero all i lt = absurd (omega arith)
picked_all {X} f a (suc n) all i lt = go (picked_all f (a + 1) n) (f a) refl all i lt
  where
    Rest : Type 0
    Rest = length (filter_map f (range_with_len (a + 1) n)) ≡ n → (i : ℕ) → i < n → slice_get (filter_map f (range_with_len (a + 1) n)) i ≡ f (a + 1 + i)

    go : Rest → (o : Option X) → f a ≡ o → length (cons_option o (filter_map f (range_with_len (a + 1) n))) ≡ suc n → (i : ℕ) → i < suc n →
        slice_get (cons_option o (filter_map f (range_with_len (a + 1) n))) i ≡ f (a + i)
    go rest None e all i lt = let r = picked_few f (a + 1) n in absurd (omega arith)
    go rest (Some x) e all zero lt = sym e ∙ ap f (sym (add-zero a))
    go rest (Some x) e all (suc i) lt = rest (omega arith) i (omega arith) ∙ next_is f a i

-- what holds of all that is given holds of what is given of one number
pub picked_each : {X : Type 0} (P : X → Type 0) (f : ℕ → Option X) (a n : ℕ) → EachIs P (filter_map f (range_with_len a n)) → (i : ℕ) → i < n → (x : X) → f (a + i) ≡ Some x → P x
picked_each P f a zero each i lt x e = absurd (omega arith)
picked_each {X} P f a (suc n) each i lt x e = go (λ each j lt e. picked_each P f (a + 1) n each j lt x e) (f a) refl each i lt e
  where
    Rest : Type 0
    Rest = EachIs P (filter_map f (range_with_len (a + 1) n)) → (i : ℕ) → i < n → f (a + 1 + i) ≡ Some x → P x

    go : Rest → (o : Option X) → f a ≡ o → EachIs P (cons_option o (filter_map f (range_with_len (a + 1) n))) → (i : ℕ) → i < suc n → f (a + i) ≡ Some x → P x
    go rest None g each zero lt e = absurd (let none : None ≡ Some x = sym g ∙ ap f (sym (add-zero a)) ∙ e in cc)
    go rest None g each (suc i) lt e = rest each i (omega arith) (next_is f a i ∙ e)
    go rest (Some y) g each zero lt e =
        let some : Some y ≡ Some x = sym g ∙ ap f (sym (add-zero a)) ∙ e in
        let same : y ≡ x = cc in
        subst P same each.0
    go rest (Some y) g each (suc i) lt e = rest each.1 i (omega arith) (next_is f a i ∙ e)

-- what stands first is given of some number
pub picked_first : {X : Type 0} (f : ℕ → Option X) (a n : ℕ) (x : X) (xs : List X) → filter_map f (range_with_len a n) ≡ x ∷ xs → (i : ℕ) × (i < n) × (f (a + i) ≡ Some x)
picked_first f a zero x xs e = absurd (let none : [] ≡ x ∷ xs = e in cc)
picked_first {X} f a (suc n) x xs e = go (picked_first f (a + 1) n x xs) (f a) refl e
  where
    Rest : Type 0
    Rest = filter_map f (range_with_len (a + 1) n) ≡ x ∷ xs → (i : ℕ) × (i < n) × (f (a + 1 + i) ≡ Some x)

    go : Rest → (o : Option X) → f a ≡ o → cons_option o (filter_map f (range_with_len (a + 1) n)) ≡ x ∷ xs → (i : ℕ) × (i < suc n) × (f (a + i) ≡ Some x)
    go rest None g e = let r = rest e in (suc r.0, (let lt = r.1 in omega arith), sym (next_is f a r.0) ∙ r.2)
    go rest (Some y) g e =
        let same : y ∷ filter_map f (range_with_len (a + 1) n) ≡ x ∷ xs = e in
        let one : y ≡ x = cc in
        (0, omega arith, ap f (add-zero a) ∙ g ∙ ap (λ (z : X). Some z) one)
