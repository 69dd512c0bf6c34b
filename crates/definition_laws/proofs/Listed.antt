-- Findings are listed in order, and each is shown by its two sightings.
use Rattle.std.proofs.Common.{Bool, List, None, Some, [], ap, arith, inl, inr, refl, subst, suc, sym, true, zero, ℕ, ◌++◌, ◌+◌, ◌<◌, ◌∙◌, ◌∷◌, ◌≡◌, ◌≤◌}
use Rattle.std.specs.Option.{option_or}
use Rattle.std.specs.Prelude.{Option, filter_map, find, flat_map, option_map}
use Rattle.std.specs.List.{range_with_len}
use Rattle.plain_lemmas.proofs.Each.{each_append, each_kept}
use Rattle.definitions.specs.Findings.{ComesBefore, IsOrdered, IsShown, Sighting, finding_at, finding_of, findings, findings_in, first_pair, kind_rank, kinds, show_kind, sightings}
use Rattle.definitions.specs.declared.findings.Kind.{Kind}
use Rattle.definitions.specs.declared.findings.Finding.{Finding}
use Rattle.definitions.specs.World.{Game, players_of}
use Rattle.definitions.specs.Lists.{EachIs}
use Rattle.definitions.specs.declared.logs.Entry.{Entry}
use Rattle.definition_laws.proofs.Listing.{EachIs_filter_map, find_stands, EachIs_flat_map}

IsOrdered_append : (xs ys : List Finding) → IsOrdered xs → IsOrdered ys → EachIs (λ f. EachIs (ComesBefore f) ys) xs → IsOrdered (xs ++ ys)
IsOrdered_append [] ys h k b = k
IsOrdered_append (x ∷ xs) ys h k b = (each_append (ComesBefore x) xs ys h.0 b.0, IsOrdered_append xs ys h.1 k b.1)

-- lists by rising number, each with its number, make a list with numbers from the first on
range_each : (At : ℕ → Finding → Type 0) (f : ℕ → List Finding) (a n : ℕ) → ((i : ℕ) → EachIs (At i) (f i)) →
    EachIs (λ x. (i : ℕ) × (a ≤ i) × At i x) (flat_map f (range_with_len a n))
range_each At f a zero e = tt
range_each At f a (suc n) e =
    each_append _ (f a) _ (each_kept _ _ (f a) (λ x h. (a, omega arith, h)) (e a))
    (each_kept _ _ _ (λ x h. (h.0, omega arith, h.2)) (range_each At f (a + 1) n e))

range_ordered : (At : ℕ → Finding → Type 0) (f : ℕ → List Finding) (a n : ℕ) → ((i : ℕ) → EachIs (At i) (f i)) → ((i : ℕ) → IsOrdered (f i)) →
    ((i j : ℕ) (x y : Finding) → i < j → At i x → At j y → ComesBefore x y) → IsOrdered (flat_map f (range_with_len a n))
range_ordered At f a zero e o b = tt
range_ordered At f a (suc n) e o b =
    IsOrdered_append (f a) (flat_map f (range_with_len (a + 1) n)) (o a) (range_ordered At f (a + 1) n e o b)
    (each_kept _ _ (f a) (λ x h. each_kept _ _ _ (λ y k. b a k.0 x y (omega arith) h k.2) (range_each At f (a + 1) n e)) (e a))

-- the finding is of this player and turn
abbrev IsOf : ℕ → ℕ → Finding → Type 0
IsOf q t f = (f.player ≡ q) × (f.turn ≡ t)

abbrev pub IsOfKind : ℕ → ℕ → Kind → Finding → Type 0
IsOfKind q t k f = (f.player ≡ q) × (f.turn ≡ t) × (f.kind ≡ k)

option_kind : (q t : ℕ) (k : Kind) (o : Option (Sighting × Sighting)) (f : Finding) → option_map (finding_of q t k) o ≡ Some f → IsOfKind q t k f
option_kind q t k None f h = cc
option_kind q t k (Some p) f h =
    let is : finding_of q t k p ≡ f = cc in
    (ap (λ (g : Finding). g.player) (sym is), ap (λ (g : Finding). g.turn) (sym is), ap (λ (g : Finding). g.kind) (sym is))

pub finding_at_kind : (game : Game) (logs : List (List Entry)) (q t : ℕ) (k : Kind) (f : Finding) → finding_at game logs q t k ≡ Some f → IsOfKind q t k f
unfolding finding_at
finding_at_kind game logs q t k f h = option_kind q t k (first_pair (show_kind game q t logs k) (sightings q t 0 logs)) f h

-- what a filtered map gives, in the order of kinds
filter_map_each : (q t : ℕ) (g : Kind → Option Finding) → ((k : Kind) (f : Finding) → g k ≡ Some f → IsOfKind q t k f) →
    (low : ℕ) (ks : List Kind) → EachIs (λ k. low ≤ kind_rank k) ks → EachIs (λ f. (f.player ≡ q) × (f.turn ≡ t) × (low ≤ kind_rank f.kind)) (filter_map g ks)
filter_map_each q t g is low [] h = tt
filter_map_each q t g is low (k ∷ ks) h = go (g k) refl (filter_map_each q t g is low ks h.1)
  where
    go : (o : Option Finding) → g k ≡ o → EachIs (λ f. (f.player ≡ q) × (f.turn ≡ t) × (low ≤ kind_rank f.kind)) (filter_map g ks) →
        EachIs (λ f. (f.player ≡ q) × (f.turn ≡ t) × (low ≤ kind_rank f.kind)) (filter_map g (k ∷ ks))
    go None e ih = rw e ih
    go (Some f) e ih = let of = is k f e in rw e ((of.0, of.1, subst (λ (j : Kind). low ≤ kind_rank j) (sym of.2) h.0), ih)

-- the kinds rise, from this number on
AreRising : ℕ → List Kind → Type 0
AreRising low [] = Unit {0}
AreRising low (k ∷ ks) = (low ≤ kind_rank k) × AreRising (kind_rank k + 1) ks

rising_each : (low low' : ℕ) (ks : List Kind) → low ≤ low' → AreRising low' ks → EachIs (λ k. low ≤ kind_rank k) ks
unfolding AreRising
rising_each low low' [] le h = tt
rising_each low low' (k ∷ ks) le h = let first = h.0 in (omega arith, rising_each low (kind_rank k + 1) ks (omega arith) h.1)

filter_map_ordered : (q t : ℕ) (g : Kind → Option Finding) → ((k : Kind) (f : Finding) → g k ≡ Some f → IsOfKind q t k f) →
    (low : ℕ) (ks : List Kind) → AreRising low ks → IsOrdered (filter_map g ks)
unfolding AreRising
filter_map_ordered q t g is low [] h = tt
filter_map_ordered q t g is low (k ∷ ks) h =
    go (g k) refl (filter_map_ordered q t g is (kind_rank k + 1) ks h.1)
    (filter_map_each q t g is (kind_rank k + 1) ks (rising_each (kind_rank k + 1) (kind_rank k + 1) ks (omega arith) h.1))
  where
    go : (o : Option Finding) → g k ≡ o → IsOrdered (filter_map g ks) →
        EachIs (λ f. (f.player ≡ q) × (f.turn ≡ t) × (kind_rank k + 1 ≤ kind_rank f.kind)) (filter_map g ks) → IsOrdered (filter_map g (k ∷ ks))
    go None e ih each = rw e ih
    go (Some f) e ih each =
        let of = is k f e in
        let rank : kind_rank f.kind ≡ kind_rank k = ap kind_rank of.2 in
        rw e (
          each_kept _ (ComesBefore f) (filter_map g ks)
              (λ x h. inr (of.0 ∙ sym h.0, inr (of.1 ∙ sym h.1, let above = h.2 in omega arith))) each,
          ih,
        )

findings_in_each : (game : Game) (logs : List (List Entry)) (q t : ℕ) → EachIs (IsOf q t) (findings_in game logs q t)
unfolding findings_in
findings_in_each game logs q t =
    each_kept _ (IsOf q t) _ (λ x h. (h.0, h.1))
    (filter_map_each q t (finding_at game logs q t) (finding_at_kind game logs q t) 0 kinds (omega arith, (omega arith, (omega arith, (omega arith, tt)))))

findings_in_ordered : (game : Game) (logs : List (List Entry)) (q t : ℕ) → IsOrdered (findings_in game logs q t)
unfolding findings_in AreRising
findings_in_ordered game logs q t =
    filter_map_ordered q t (finding_at game logs q t) (finding_at_kind game logs q t) 0 kinds
    (omega arith, (omega arith, (omega arith, (omega arith, tt))))

-- the findings are listed by player, turn and kind
pub findings_ordered : (game : Game) (logs : List (List Entry)) → IsOrdered (findings game logs)
unfolding findings
findings_ordered game logs =
    range_ordered (λ q f. f.player ≡ q) (λ q. flat_map (findings_in game logs q) (range_with_len 0 game.turns)) 0 (players_of game)
    (λ q. each_kept _ (λ f. f.player ≡ q) _ (λ x h. h.2.0)
    (range_each (IsOf q) (findings_in game logs q) 0 game.turns (findings_in_each game logs q)))
    (λ q. range_ordered (IsOf q) (findings_in game logs q) 0 game.turns (findings_in_each game logs q) (findings_in_ordered game logs q)
    (λ i j x y lt h k. inr (h.0 ∙ sym k.0, inl (let a = h.1 in let b = k.1 in omega arith))))
    (λ i j x y lt h k. inl (omega arith))

-- a pair that `first_pair` gives stands in the list, and passes
pub record IsPairOf {X : Type 0} (test : X → X → Bool) (xs : List X) (p : X × X) : Type 0 where
  pub front : List X
  pub between : List X
  pub back : List X
  pub stand : xs ≡ front ++ p.0 ∷ (between ++ p.1 ∷ back)
  pub passes : test p.0 p.1 ≡ true

pub first_pair_stands : {X : Type 0} (test : X → X → Bool) (xs : List X) (p : X × X) → first_pair test xs ≡ Some p → IsPairOf test xs p
unfolding first_pair
first_pair_stands test [] p h = absurd (let e : None ≡ Some p = h in cc)
first_pair_stands {X} test (x ∷ xs) p h = go (find (test x) xs) refl h (first_pair_stands test xs p)
  where
    go : (o : Option X) → find (test x) xs ≡ o → option_or (option_map (λ y. (x, y)) o) (first_pair test xs) ≡ Some p →
        (first_pair test xs ≡ Some p → IsPairOf test xs p) → IsPairOf test (x ∷ xs) p
    go None e h ih = let r = ih h in record { front = x ∷ r.front; between = r.between; back = r.back; stand = ap (λ (zs : List X). x ∷ zs) r.stand; passes = r.passes }
    go (Some y) e h ih =
        let f = find_stands (test x) xs y e in
        let same : (let q : X × X = (x, y) in q) ≡ p = cc in
        subst (λ (q : X × X). IsPairOf test (x ∷ xs) q) same
        (record { front = []; between = f.0; back = f.1; stand = ap (λ (zs : List X). x ∷ zs) f.2; passes = f.3 })

-- a finding is shown by its two sightings
pub finding_at_shown : (game : Game) (logs : List (List Entry)) (q t : ℕ) (k : Kind) (f : Finding) → finding_at game logs q t k ≡ Some f → IsShown game logs f
unfolding finding_at
finding_at_shown game logs q t k f h = go (first_pair (show_kind game q t logs k) (sightings q t 0 logs)) refl h
  where
    go : (o : Option (Sighting × Sighting)) → first_pair (show_kind game q t logs k) (sightings q t 0 logs) ≡ o → option_map (finding_of q t k) o ≡ Some f → IsShown game logs f
    go None e h = absurd (let e : None ≡ Some f = h in cc)
    go (Some p) e h =
        let r = first_pair_stands (show_kind game q t logs k) (sightings q t 0 logs) p e in
        let same : finding_of q t k p ≡ f = cc in
        subst (λ (g : Finding). IsShown game logs g) same
        (record { lower = p.0; higher = p.1; front = r.front; between = r.between; back = r.back; stand = r.stand; first_is = refl; second_is = refl; shown = r.passes })

-- each finding is shown by its two sightings
pub findings_shown : (game : Game) (logs : List (List Entry)) → EachIs (IsShown game logs) (findings game logs)
unfolding findings findings_in
findings_shown game logs =
    EachIs_flat_map (IsShown game logs) (λ q. flat_map (λ t. filter_map (finding_at game logs q t) kinds) (range_with_len 0 game.turns)) (range_with_len 0 (players_of game))
    (λ q. EachIs_flat_map (IsShown game logs) (λ t. filter_map (finding_at game logs q t) kinds) (range_with_len 0 game.turns)
    (λ t. EachIs_filter_map (IsShown game logs) (finding_at game logs q t) kinds (λ k f e. finding_at_shown game logs q t k f e)))
