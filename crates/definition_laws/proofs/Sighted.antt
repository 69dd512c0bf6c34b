-- Sighted: the sightings of a player's turn are the entries that got its frames, in the order of their spots.
use Rattle.std.proofs.Common.{Bool, List, None, Some, [], ap, arith, false, inl, inr, refl, subst, suc, sym, true, zero, zero-add, ℕ, ◌++◌, ◌+◌, ◌-◌, ◌∙◌, ◌∷◌, ◌≡◌, ◌≤◌, ◌⊎◌, slice_get}
use Rattle.std.specs.Prelude.{if◌then◌else◌, ◌&&◌, ◌==◌}
use Rattle.std.proofs.lemmas.Bool.{and_from, eq-eqb, eqb-true}
use Rattle.plain_lemmas.proofs.Each.{each_append}
use Rattle.definitions.specs.declared.frames.TurnFrame.{TurnFrame}
use Rattle.definitions.specs.declared.findings.Spot.{Spot}
use Rattle.definitions.specs.declared.logs.Entry.{Entry}
use Rattle.definitions.specs.declared.logs.Entry.TheVariants.{Chose, Got, Made}
use Rattle.definitions.specs.Lists.{EachIs}
use Rattle.definitions.specs.Logs.{turn_of}
use Rattle.definitions.specs.Findings.{Sighting, sightings, sightings_from}
use Rattle.definition_laws.specs.Members.{Has}
use Rattle.definition_laws.specs.Spots.{IsSighting, SpotBefore}
use Rattle.definition_laws.proofs.Members.{Has_append, Has_back, Has_front, each_Has}

-- a spot by its log and its entry
pub spot_from : (s t : Spot) → s.log ≡ t.log → s.entry ≡ t.entry → s ≡ t
spot_from s t a b =
    let at_log : ℕ → Spot = λ n. record { log = n; entry = s.entry } in
    let at_entry : ℕ → Spot = λ n. record { log = t.log; entry = n } in
    ap at_log a ∙ ap at_entry b

-- a sighting is an entry of this log, from its entry i on
abbrev pub IsIn : ℕ → ℕ → ℕ → ℕ → List Entry → Sighting → Type 0
IsIn q t log i h s = (s.spot.log ≡ log) × (i ≤ s.spot.entry) × (slice_get h (s.spot.entry - i) ≡ Some (Got q s.frame)) × (turn_of s.frame ≡ t)

-- one entry further on
is_in_later : (q t log i : ℕ) (e : Entry) (h : List Entry) (s : Sighting) → IsIn q t log (i + 1) h s → IsIn q t log i (e ∷ h) s
is_in_later q t log i e h s w =
    let after = w.1 in
    let place : s.spot.entry - i ≡ suc (s.spot.entry - (i + 1)) = omega arith in
    (w.0, omega arith, ap (slice_get (e ∷ h)) place ∙ w.2, w.3)

seen_is_in : (q t log i : ℕ) (h : List Entry) (s : Sighting) → Has (sightings_from q t log i h) s → IsIn q t log i h s
unfolding sightings_from
seen_is_in q t log i [] s m = absurd m
seen_is_in q t log i (Chose u m n ∷ h) s k = is_in_later q t log i (Chose u m n) h s (seen_is_in q t log (i + 1) h s k)
seen_is_in q t log i (Made g ∷ h) s k = is_in_later q t log i (Made g) h s (seen_is_in q t log (i + 1) h s k)
seen_is_in q t log i (Got p g ∷ h) s k = go (p == q) refl (turn_of g == t) refl k (λ m. is_in_later q t log i (Got p g) h s (seen_is_in q t log (i + 1) h s m))
  where
    here : Sighting
    here = record { spot = record { log = log; entry = i }; frame = g }

    at : p ≡ q → turn_of g ≡ t → here ≡ s → IsIn q t log i (Got p g ∷ h) s
    at a b e =
        let place : i - i ≡ 0 = omega arith in
        subst (λ (x : Sighting). IsIn q t log i (Got p g ∷ h) x) e
        (refl, omega arith, ap (slice_get (Got p g ∷ h)) place ∙ ap (λ (n : ℕ). Some (Got n g)) a, b)

    go : (b : Bool) → (p == q) ≡ b → (c : Bool) → (turn_of g == t) ≡ c → Has ((if b && c then here ∷ [] else []) ++ sightings_from q t log (i + 1) h) s →
        (Has (sightings_from q t log (i + 1) h) s → IsIn q t log i (Got p g ∷ h) s) → IsIn q t log i (Got p g ∷ h) s
    go false x c y m ih = ih m
    go true x false y m ih = ih m
    go true x true y (inl e) ih = at (eqb-true p q x) (eqb-true _ t y) e
    go true x true y (inr m) ih = ih m

in_is_seen : (q t log i k e : ℕ) (h : List Entry) (f : TurnFrame) → slice_get h k ≡ Some (Got q f) → turn_of f ≡ t → e ≡ i + k →
    Has (sightings_from q t log i h) (record { spot = record { log = log; entry = e }; frame = f })
unfolding sightings_from
in_is_seen q t log i k e [] f g turn at = absurd (let none : None ≡ Some (Got q f) = g in cc)
in_is_seen q t log i zero e (Chose u m n ∷ h) f g turn at = absurd cc
in_is_seen q t log i zero e (Made x ∷ h) f g turn at = absurd cc
in_is_seen q t log i zero e (Got p x ∷ h) f g turn at =
    let player : p ≡ q = cc in
    let frame : x ≡ f = cc in
    let both : ((p == q) && (turn_of x == t)) ≡ true = and_from _ _ (eq-eqb p q player) (eq-eqb (turn_of x) t (ap turn_of frame ∙ turn)) in
    let entry : i ≡ e = omega arith in
    let at_entry : ℕ → Sighting = λ n. record { spot = record { log = log; entry = n }; frame = x } in
    let at_frame : TurnFrame → Sighting = λ y. record { spot = record { log = log; entry = e }; frame = y } in
    rw both (inl (ap at_entry entry ∙ ap at_frame frame))
in_is_seen q t log i (suc k) e (Chose u m n ∷ h) f g turn at = in_is_seen q t log (i + 1) k e h f g turn (omega arith)
in_is_seen q t log i (suc k) e (Made x ∷ h) f g turn at = in_is_seen q t log (i + 1) k e h f g turn (omega arith)
in_is_seen q t log i (suc k) e (Got p x ∷ h) f g turn at = Has_back _ _ _ (in_is_seen q t log (i + 1) k e h f g turn (omega arith))

-- a sighting among the logs from the number on
abbrev IsAmong : ℕ → ℕ → ℕ → List (List Entry) → Sighting → Type 0
IsAmong q t n logs s = (n ≤ s.spot.log) × (h : List Entry) × (slice_get logs (s.spot.log - n) ≡ Some h) × (slice_get h s.spot.entry ≡ Some (Got q s.frame)) × (turn_of s.frame ≡ t)

seen_is_among : (q t n : ℕ) (logs : List (List Entry)) (s : Sighting) → Has (sightings q t n logs) s → IsAmong q t n logs s
unfolding sightings
seen_is_among q t n [] s m = absurd m
seen_is_among q t n (h ∷ hs) s m = go (Has_append (sightings_from q t n 0 h) _ s m) (seen_is_among q t (n + 1) hs s)
  where
    go : Has (sightings_from q t n 0 h) s ⊎ Has (sightings q t (n + 1) hs) s → (Has (sightings q t (n + 1) hs) s → IsAmong q t (n + 1) hs s) → IsAmong q t n (h ∷ hs) s
    go (inl a) ih =
        let w = seen_is_in q t n 0 h s a in
        let log = w.0 in
        let place : s.spot.log - n ≡ 0 = omega arith in
        let entry : s.spot.entry - 0 ≡ s.spot.entry = omega arith in
        (omega arith, h, ap (slice_get (h ∷ hs)) place, ap (slice_get h) (sym entry) ∙ w.2, w.3)
    go (inr b) ih =
        let w = ih b in
        let after = w.0 in
        let place : s.spot.log - n ≡ suc (s.spot.log - (n + 1)) = omega arith in
        (omega arith, w.1, ap (slice_get (h ∷ hs)) place ∙ w.2, w.3, w.4)

among_is_seen : (q t n k l e : ℕ) (logs : List (List Entry)) (h : List Entry) (f : TurnFrame) → slice_get logs k ≡ Some h → slice_get h e ≡ Some (Got q f) →
    turn_of f ≡ t → l ≡ n + k → Has (sightings q t n logs) (record { spot = record { log = l; entry = e }; frame = f })
unfolding sightings
among_is_seen q t n k l e [] h f there got turn at = absurd (let none : None ≡ Some h = there in cc)
among_is_seen q t n zero l e (g ∷ logs) h f there got turn at =
    let same : g ≡ h = cc in
    let log : n ≡ l = omega arith in
    let entry : e ≡ 0 + e = omega arith in
    Has_front _ _ _ (subst (λ (m : ℕ). Has (sightings_from q t n 0 g) (record { spot = record { log = m; entry = e }; frame = f })) log
    (in_is_seen q t n 0 e e g f (ap (λ (k : List Entry). slice_get k e) same ∙ got) turn entry))
among_is_seen q t n (suc k) l e (g ∷ logs) h f there got turn at = Has_back _ _ _ (among_is_seen q t (n + 1) k l e logs h f there got turn (omega arith))

-- what stands among the sightings is a sighting in the words of logs and entries
pub seen_is_sighting : (q t : ℕ) (logs : List (List Entry)) (s : Sighting) → Has (sightings q t 0 logs) s → IsSighting logs q t s
seen_is_sighting q t logs s m =
    let w = seen_is_among q t 0 logs s m in
    let log : s.spot.log - 0 ≡ s.spot.log = omega arith in
    record { log = w.1; there = ap (slice_get logs) (sym log) ∙ w.2; got = w.3; turn = w.4 }

pub sighting_is_seen : (q t : ℕ) (logs : List (List Entry)) (s : Sighting) → IsSighting logs q t s → Has (sightings q t 0 logs) s
sighting_is_seen q t logs s w = among_is_seen q t 0 s.spot.log s.spot.log s.spot.entry logs w.log s.frame w.there w.got w.turn (sym (zero-add s.spot.log))

-- each stands before all behind it
unfoldable pub IsSorted : {X : Type 0} → (X → X → Type 0) → List X → Type 0
IsSorted R [] = Unit {0}
IsSorted R (x ∷ xs) = EachIs (R x) xs × IsSorted R xs

sorted_append : {X : Type 0} (R : X → X → Type 0) (xs ys : List X) → IsSorted R xs → IsSorted R ys → EachIs (λ x. EachIs (R x) ys) xs → IsSorted R (xs ++ ys)
unfolding IsSorted
sorted_append R [] ys a b c = b
sorted_append R (x ∷ xs) ys a b c = (each_append (R x) xs ys a.0 c.0, sorted_append R xs ys a.1 b c.1)

-- of the sightings the lower stands first
abbrev pub SeenBefore : Sighting → Sighting → Type 0
SeenBefore a b = SpotBefore a.spot b.spot

seen_from_sorted : (q t log i : ℕ) (h : List Entry) → IsSorted SeenBefore (sightings_from q t log i h)
unfolding sightings_from IsSorted
seen_from_sorted q t log i [] = tt
seen_from_sorted q t log i (Chose u m n ∷ h) = seen_from_sorted q t log (i + 1) h
seen_from_sorted q t log i (Made g ∷ h) = seen_from_sorted q t log (i + 1) h
seen_from_sorted q t log i (Got p g ∷ h) = go ((p == q) && (turn_of g == t)) (seen_from_sorted q t log (i + 1) h)
  where
    here : Sighting
    here = record { spot = record { log = log; entry = i }; frame = g }

    go : (b : Bool) → IsSorted SeenBefore (sightings_from q t log (i + 1) h) → IsSorted SeenBefore ((if b then here ∷ [] else []) ++ sightings_from q t log (i + 1) h)
    go false ih = ih
    go true ih = (
      each_Has (SeenBefore here) (sightings_from q t log (i + 1) h)
          (λ s m. let w = seen_is_in q t log (i + 1) h s m in let after = w.1 in inr (sym w.0, omega arith)),
      ih,
    )

pub sightings_sorted : (q t n : ℕ) (logs : List (List Entry)) → IsSorted SeenBefore (sightings q t n logs)
unfolding sightings IsSorted
sightings_sorted q t n [] = tt
sightings_sorted q t n (h ∷ hs) =
    sorted_append SeenBefore (sightings_from q t n 0 h) (sightings q t (n + 1) hs) (seen_from_sorted q t n 0 h) (sightings_sorted q t (n + 1) hs)
    (each_Has _ (sightings_from q t n 0 h) (λ a m. each_Has _ (sightings q t (n + 1) hs)
    (λ b k. let x = seen_is_in q t n 0 h a m in let y = seen_is_among q t (n + 1) hs b k in let log = x.0 in let after = y.0 in inl (omega arith))))
