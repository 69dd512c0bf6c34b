-- InSight: which sighting of a log is the first commitment.
use Rattle.std.proofs.Common.{Bool, List, None, Some, [], ap, arith, false, refl, suc, true, zero, ℕ, ◌++◌, ◌+◌, ◌<◌, ◌∙◌, ◌∷◌, ◌≡◌, slice_get}
use Rattle.std.specs.Prelude.{◌&&◌, ◌==◌, if◌then◌else◌}
use Rattle.std.proofs.lemmas.Bool.{and_from, eqb-true, eq-eqb}
use Rattle.definitions.specs.declared.frames.TurnFrame.{TurnFrame}
use Rattle.definitions.specs.declared.logs.Entry.{Entry}
use Rattle.definitions.specs.declared.logs.Entry.TheVariants.{Chose, Got, Made}
use Rattle.definitions.specs.Logs.{turn_of}
use Rattle.definitions.specs.Findings.{Sighting, is_commit, is_first_commit, sightings_from}

-- the entry got a frame of the player's turn that is no commitment, or none
abbrev pub NoCommit : ℕ → ℕ → List Entry → ℕ → Type 0
NoCommit q t h m = (x : TurnFrame) → slice_get h m ≡ Some (Got q x) → turn_of x ≡ t → is_commit x ≡ false

pub none_first : (q t log i : ℕ) (h : List Entry) (a : Sighting) → ((m : ℕ) → NoCommit q t h m) → is_first_commit (sightings_from q t log i h) a ≡ false
unfolding sightings_from
none_first q t log i [] a r = refl
none_first q t log i (Chose u m n ∷ h) a r = none_first q t log (i + 1) h a (λ m. r (suc m))
none_first q t log i (Made x ∷ h) a r = none_first q t log (i + 1) h a (λ m. r (suc m))
none_first q t log i (Got p x ∷ h) a r = go (p == q) refl (turn_of x == t) refl (none_first q t log (i + 1) h a (λ m. r (suc m)))
  where
    here : Sighting
    here = record { spot = record { log = log; entry = i }; frame = x }

    go : (b : Bool) → (p == q) ≡ b → (c : Bool) → (turn_of x == t) ≡ c → is_first_commit (sightings_from q t log (i + 1) h) a ≡ false →
        is_first_commit ((if b && c then here ∷ [] else []) ++ sightings_from q t log (i + 1) h) a ≡ false
    go false e c f ih = ih
    go true e false f ih = ih
    go true e true f ih =
        ap (λ (b : Bool). if b then i == a.spot.entry else is_first_commit (sightings_from q t log (i + 1) h) a) (r 0 x (ap (λ (n : ℕ). Some (Got n x)) (eqb-true p q e)) (eqb-true (turn_of x) t f)) ∙ ih

pub first_at : (q t log i : ℕ) (h : List Entry) (n : ℕ) (f : TurnFrame) (a : Sighting) → slice_get h n ≡ Some (Got q f) → turn_of f ≡ t → is_commit f ≡ true →
    ((m : ℕ) → m < n → NoCommit q t h m) → is_first_commit (sightings_from q t log i h) a ≡ (i + n == a.spot.entry)
unfolding sightings_from
first_at q t log i [] n f a at turn commit r = absurd (let nothing : None ≡ Some (Got q f) = at in cc)
first_at q t log i (Chose u m k ∷ h) zero f a at turn commit r = absurd cc
first_at q t log i (Made x ∷ h) zero f a at turn commit r = absurd cc
first_at q t log i (Chose u m k ∷ h) (suc n) f a at turn commit r =
    first_at q t log (i + 1) h n f a at turn commit (λ m lt. r (suc m) (omega arith)) ∙ (let place : i + 1 + n ≡ i + suc n = omega arith in ap (λ (k : ℕ). k == a.spot.entry) place)
first_at q t log i (Made x ∷ h) (suc n) f a at turn commit r =
    first_at q t log (i + 1) h n f a at turn commit (λ m lt. r (suc m) (omega arith)) ∙ (let place : i + 1 + n ≡ i + suc n = omega arith in ap (λ (k : ℕ). k == a.spot.entry) place)
first_at q t log i (Got p x ∷ h) zero f a at turn commit r =
    let player : p ≡ q = cc in
    let frame : x ≡ f = cc in
    let both : ((p == q) && (turn_of x == t)) ≡ true = and_from _ _ (eq-eqb p q player) (eq-eqb (turn_of x) t (ap turn_of frame ∙ turn)) in
    let place : i ≡ i + 0 = omega arith in
    rw both (ap (λ (b : Bool). if b then i == a.spot.entry else is_first_commit (sightings_from q t log (i + 1) h) a) (ap is_commit frame ∙ commit) ∙ ap (λ (k : ℕ). k == a.spot.entry) place)
first_at q t log i (Got p x ∷ h) (suc n) f a at turn commit r =
    go (p == q) refl (turn_of x == t) refl (first_at q t log (i + 1) h n f a at turn commit (λ m lt. r (suc m) (omega arith)))
    ∙ (let place : i + 1 + n ≡ i + suc n = omega arith in ap (λ (k : ℕ). k == a.spot.entry) place)
  where
    here : Sighting
    here = record { spot = record { log = log; entry = i }; frame = x }

    go : (b : Bool) → (p == q) ≡ b → (c : Bool) → (turn_of x == t) ≡ c → is_first_commit (sightings_from q t log (i + 1) h) a ≡ (i + 1 + n == a.spot.entry) →
        is_first_commit ((if b && c then here ∷ [] else []) ++ sightings_from q t log (i + 1) h) a ≡ (i + 1 + n == a.spot.entry)
    go false e c g ih = ih
    go true e false g ih = ih
    go true e true g ih =
        ap (λ (b : Bool). if b then i == a.spot.entry else is_first_commit (sightings_from q t log (i + 1) h) a)
        (r 0 (omega arith) x (ap (λ (n : ℕ). Some (Got n x)) (eqb-true p q e)) (eqb-true (turn_of x) t g)) ∙ ih
