-- OfTurns: the frames of a turn are those of its two slots.
use Rattle.std.proofs.Common.{◌≡◌, ℕ, zero, suc, ◌+◌, ◌*◌, ◌<◌, ◌≤◌, List, [], ◌∷◌, refl, Bool, true, false, sym, ◌∙◌, ap, arith, Option, Some, None}
use Rattle.std.specs.Prelude.{◌==◌, cond, filter, nat_lt, if◌then◌else◌}
use Rattle.std.proofs.lemmas.Bool.{cond-true, eq-eqb, lt-ltb, ltb-false, ltb-true, ne_eqb}
use Rattle.plain_lemmas.proofs.Each.{each_kept}
use Rattle.definitions.specs.declared.frames.TurnFrame.{TurnFrame}
use Rattle.definitions.specs.declared.frames.TurnFrame.TheVariants.{Commit, Reveal}
use Rattle.definitions.specs.Lists.{EachIs}
use Rattle.definitions.specs.Logs.{turn_of}
use Rattle.peer_window.specs.declared.received.Received.{Received}
use Rattle.peer_window.specs.Clashes.{of_turn}
use Rattle.peer_window.specs.Slots.{AreSlots, in_order, insert, insert_some, slot_of, slot}
use Rattle.peer_window.proofs.Ordered.{each_in_order, insert_each}

-- each came no later than those behind it
unfoldable IsRising : List Received → Type 0
IsRising [] = Unit {0}
IsRising (x ∷ xs) = EachIs (λ y. x.entry ≤ y.entry) xs × IsRising xs

insert_rising : (r : Received) (xs : List Received) → IsRising xs → IsRising (insert r xs)
unfolding IsRising
insert_rising r [] h = (tt, tt)
insert_rising r (x ∷ xs) h = go (nat_lt r.entry x.entry) refl (insert_rising r xs h.1)
  where
    go : (b : Bool) → nat_lt r.entry x.entry ≡ b → IsRising (insert r xs) → IsRising (if b then r ∷ x ∷ xs else x ∷ insert r xs)
    go true e ih = let lt = ltb-true r.entry x.entry e in ((omega arith, each_kept _ _ xs (λ y k. omega arith) h.0), h)
    go false e ih = let ge = ltb-false r.entry x.entry e in (insert_each (λ y. x.entry ≤ y.entry) r xs (omega arith) h.0, ih)

in_order_rising : (ss : List (Option Received)) → IsRising (in_order ss)
unfolding IsRising
in_order_rising [] = tt
in_order_rising (None ∷ ss) = in_order_rising ss
in_order_rising (Some r ∷ ss) = insert_rising r (in_order ss) (in_order_rising ss)

filter_skips : (p : Received → Bool) (r : Received) (xs : List Received) → p r ≡ false → filter p (insert r xs) ≡ filter p xs
filter_skips p r [] h = ap (λ (b : Bool). cond b (r ∷ []) []) h
filter_skips p r (x ∷ xs) h = go (nat_lt r.entry x.entry) (filter_skips p r xs h)
  where
    go : (b : Bool) → filter p (insert r xs) ≡ filter p xs → filter p (if b then r ∷ x ∷ xs else x ∷ insert r xs) ≡ filter p (x ∷ xs)
    go true ih = ap (λ (b : Bool). cond b (r ∷ filter p (x ∷ xs)) (filter p (x ∷ xs))) h
    go false ih = ap (λ (ys : List Received). cond (p x) (x ∷ ys) ys) ih

filter_each : (P : Received → Type 0) (p : Received → Bool) (xs : List Received) → EachIs P xs → EachIs P (filter p xs)
filter_each P p [] h = tt
filter_each P p (x ∷ xs) h = go (p x) (filter_each P p xs h.1)
  where
    go : (b : Bool) → EachIs P (filter p xs) → EachIs P (cond b (x ∷ filter p xs) (filter p xs))
    go true ih = (h.0, ih)
    go false ih = ih

insert_front : (r : Received) (xs : List Received) → EachIs (λ y. r.entry < y.entry) xs → insert r xs ≡ r ∷ xs
insert_front r [] h = refl
insert_front r (x ∷ xs) h = cond-true (nat_lt r.entry x.entry) _ _ (lt-ltb r.entry x.entry h.0)

filter_keeps : (p : Received → Bool) (r : Received) (xs : List Received) → p r ≡ true → IsRising xs → filter p (insert r xs) ≡ insert r (filter p xs)
unfolding IsRising
filter_keeps p r [] h w = ap (λ (b : Bool). cond b (r ∷ []) []) h
filter_keeps p r (x ∷ xs) h w = go (nat_lt r.entry x.entry) refl (filter_keeps p r xs h w.1)
  where
    later : (b : Bool) → nat_lt r.entry x.entry ≡ false → insert r (cond b (x ∷ filter p xs) (filter p xs)) ≡ cond b (x ∷ insert r (filter p xs)) (insert r (filter p xs))
    later true e = ap (λ (b : Bool). if b then r ∷ x ∷ filter p xs else x ∷ insert r (filter p xs)) e
    later false e = refl

    go : (b : Bool) → nat_lt r.entry x.entry ≡ b → filter p (insert r xs) ≡ insert r (filter p xs) → filter p (if b then r ∷ x ∷ xs else x ∷ insert r xs) ≡ insert r (filter p (x ∷ xs))
    go true e ih =
        let lt = ltb-true r.entry x.entry e in
        let all : EachIs (λ y. r.entry < y.entry) (x ∷ xs) = (lt, each_kept _ _ xs (λ y k. omega arith) w.0) in
        ap (λ (b : Bool). cond b (r ∷ filter p (x ∷ xs)) (filter p (x ∷ xs))) h ∙ sym (insert_front r (filter p (x ∷ xs)) (filter_each _ p (x ∷ xs) all))
    go false e ih = ap (λ (ys : List Received). cond (p x) (x ∷ ys) ys) ih ∙ sym (later (p x) e)

filter_none : (p : Received → Bool) (xs : List Received) → EachIs (λ x. p x ≡ false) xs → filter p xs ≡ []
filter_none p [] h = refl
filter_none p (x ∷ xs) h = ap (λ (b : Bool). cond b (x ∷ filter p xs) (filter p xs)) h.0 ∙ filter_none p xs h.1

filter_some : (p : Received → Bool) (s : Option Received) (xs : List Received) → ((r : Received) → s ≡ Some r → p r ≡ true) → IsRising xs → filter p (insert_some s xs) ≡ insert_some s (filter p xs)
filter_some p None xs h w = refl
filter_some p (Some r) xs h w = filter_keeps p r xs (h r refl) w

some_rising : (s : Option Received) (xs : List Received) → IsRising xs → IsRising (insert_some s xs)
some_rising None xs w = w
some_rising (Some r) xs w = insert_rising r xs w

-- where two slots alone may pass, and do
filter_two : (p : Received → Bool) (ss : List (Option Received)) (a : ℕ) → ((i : ℕ) (r : Received) → slot ss i ≡ Some r → (i ≡ a → ⊥) → (i ≡ a + 1 → ⊥) → p r ≡ false) →
    ((r : Received) → slot ss a ≡ Some r → p r ≡ true) → ((r : Received) → slot ss (a + 1) ≡ Some r → p r ≡ true) → filter p (in_order ss) ≡ in_order (slot ss a ∷ slot ss (a + 1) ∷ [])
unfolding IsRising
filter_two p [] a out one two = refl
filter_two p (s ∷ []) zero out one two = filter_some p s [] one tt
filter_two p (s ∷ u ∷ ss) zero out one two =
    let rest = filter_none p (in_order ss) (each_in_order (λ r. p r ≡ false) ss (λ i r e. out (suc (suc i)) r e (λ k. omega arith) (λ k. omega arith))) in
    filter_some p s (insert_some u (in_order ss)) one (some_rising u (in_order ss) (in_order_rising ss))
    ∙ ap (insert_some s) (filter_some p u (in_order ss) two (in_order_rising ss) ∙ ap (insert_some u) rest)
filter_two p (None ∷ ss) (suc a) out one two =
    let next : suc a + 1 ≡ suc (a + 1) = omega arith in
    filter_two p ss a (λ i r e x y. out (suc i) r e (λ k. x (omega arith)) (λ k. y (omega arith))) one (λ r e. two r (ap (slot (None ∷ ss)) next ∙ e))
    ∙ ap (λ (o : Option Received). in_order (slot ss a ∷ o ∷ [])) (ap (slot (None ∷ ss)) (sym next))
filter_two p (Some x ∷ ss) (suc a) out one two =
    let next : suc a + 1 ≡ suc (a + 1) = omega arith in
    filter_skips p x (in_order ss) (out 0 x refl (λ k. omega arith) (λ k. omega arith))
    ∙ filter_two p ss a (λ i r e x y. out (suc i) r e (λ k. x (omega arith)) (λ k. y (omega arith))) one (λ r e. two r (ap (slot (Some x ∷ ss)) next ∙ e))
    ∙ ap (λ (o : Option Received). in_order (slot ss a ∷ o ∷ [])) (ap (slot (Some x ∷ ss)) (sym next))

turn_elsewhere : (f : TurnFrame) (t i : ℕ) → slot_of f ≡ i → (i ≡ 2 * t → ⊥) → (i ≡ 2 * t + 1 → ⊥) → (turn_of f == t) ≡ false
turn_elsewhere (Commit p u d) t i e x y = ne_eqb u t (λ k. x (omega arith))
turn_elsewhere (Reveal p u m n) t i e x y = ne_eqb u t (λ k. y (omega arith))

turn_commit : (f : TurnFrame) (t : ℕ) → slot_of f ≡ 2 * t → (turn_of f == t) ≡ true
turn_commit (Commit p u d) t e = eq-eqb u t (omega arith)
turn_commit (Reveal p u m n) t e = absurd (omega arith)

turn_reveal : (f : TurnFrame) (t : ℕ) → slot_of f ≡ 2 * t + 1 → (turn_of f == t) ≡ true
turn_reveal (Commit p u d) t e = absurd (omega arith)
turn_reveal (Reveal p u m n) t e = eq-eqb u t (omega arith)

-- the frames of a turn
pub turn_slots : (q c u t : ℕ) (ss : List (Option Received)) → AreSlots q ss c u → of_turn t (in_order ss) ≡ in_order (slot ss (2 * t) ∷ slot ss (2 * t + 1) ∷ [])
turn_slots q c u t ss w =
    filter_two (λ r. turn_of r.frame == t) ss (2 * t) (λ i r e x y. turn_elsewhere r.frame t i (w.own i r e).0 x y) (λ r e. turn_commit r.frame t (w.own (2 * t) r e).0) (λ r e. turn_reveal r.frame t (w.own (2 * t + 1) r e).0)
