-- Least: the findings are exactly those of the least pairs of sightings that show their kinds.
use Rattle.std.proofs.Common.{Bool, List, None, Some, [], ap, arith, false, inl, inr, refl, subst, sym, true, ℕ, ◌++◌, ◌<◌, ◌∙◌, ◌∷◌, ◌≡◌, ◌⊎◌, Option}
use Rattle.std.specs.Prelude.{cond, filter_map, find, flat_map, option_map}
use Rattle.std.specs.List.{range_with_len}
use Rattle.std.specs.Option.{option_or}
use Rattle.std.proofs.lemmas.Bool.{false≢true}
use Rattle.definitions.specs.declared.logs.Entry.{Entry}
use Rattle.definitions.specs.declared.findings.Kind.{Kind}
use Rattle.definitions.specs.declared.findings.Kind.TheVariants.{TwoCommits, BadOpening, Collision, Illegal}
use Rattle.definitions.specs.declared.findings.Spot.{Spot}
use Rattle.definitions.specs.declared.findings.Finding.{Finding}
use Rattle.definitions.specs.World.{Game, players_of}
use Rattle.definitions.specs.Findings.{Sighting, sightings, show_kind, first_pair, finding_of, finding_at, kinds, findings_in, findings}
use Rattle.definition_laws.specs.Members.{Has}
use Rattle.definition_laws.specs.Spots.{SpotBefore, IsSighting, IsLeastPair}
use Rattle.definition_laws.proofs.Members.{Has_each, Has_filter_map, Has_flat_map, Has_middle, Has_back, Has_range, filter_map_Has, flat_map_Has, range_Has}
use Rattle.definition_laws.proofs.Listed.{finding_at_kind, first_pair_stands}
use Rattle.definition_laws.proofs.Sighted.{IsSorted, SeenBefore, seen_is_sighting, sighting_is_seen, sightings_sorted}

-- the one that `find` gives passes, and comes before each other that does
find_none_Has : {X : Type 0} (p : X → Bool) (xs : List X) (x : X) → find p xs ≡ None → Has xs x → p x ≡ false
find_none_Has p [] x h m = absurd m
find_none_Has {X} p (y ∷ ys) x h m = go (p y) refl h m (find_none_Has p ys x)
  where
    go : (b : Bool) → p y ≡ b → cond b (Some y) (find p ys) ≡ None → (y ≡ x) ⊎ Has ys x → (find p ys ≡ None → Has ys x → p x ≡ false) → p x ≡ false
    go true e h m ih = absurd (cc)
    go false e h (inl a) ih = ap p (sym a) ∙ e
    go false e h (inr b) ih = ih h b

find_first : {X : Type 0} (R : X → X → Type 0) (p : X → Bool) (xs : List X) (y x : X) → IsSorted R xs → find p xs ≡ Some y → Has xs x → p x ≡ true → R y x ⊎ (y ≡ x)
unfolding IsSorted
find_first R p [] y x s h m k = absurd m
find_first {X} R p (z ∷ zs) y x s h m k = go (p z) refl h m (find_first R p zs y x s.1)
  where
    go : (b : Bool) → p z ≡ b → cond b (Some z) (find p zs) ≡ Some y → (z ≡ x) ⊎ Has zs x → (find p zs ≡ Some y → Has zs x → p x ≡ true → R y x ⊎ (y ≡ x)) → R y x ⊎ (y ≡ x)
    go true e h (inl a) ih = inr (let same : z ≡ y = cc in sym same ∙ a)
    go true e h (inr b) ih = inl (let same : z ≡ y = cc in subst (λ (w : X). R w x) same (Has_each (R z) zs x s.0 b))
    go false e h (inl a) ih = absurd (false≢true (sym e ∙ ap p a ∙ k))
    go false e h (inr b) ih = ih h b k

-- of an order no two come before each other
abbrev pub IsStrict : {X : Type 0} → (X → X → Type 0) → Type 0
IsStrict {X} R = (x y : X) → R x y → R y x → ⊥

pub pair_none : {X : Type 0} (R : X → X → Type 0) (test : X → X → Bool) (xs : List X) (a b : X) → IsStrict R → IsSorted R xs → first_pair test xs ≡ None →
    Has xs a → Has xs b → R a b → test a b ≡ false
unfolding first_pair IsSorted
pair_none R test [] a b strict s h ma mb r = absurd ma
pair_none {X} R test (x ∷ xs) a b strict s h ma mb r = go (find (test x) xs) refl h ma mb (pair_none R test xs a b strict s.1)
  where
    go : (o : Option X) → find (test x) xs ≡ o → option_or (option_map (λ y. (x, y)) o) (first_pair test xs) ≡ None → (x ≡ a) ⊎ Has xs a → (x ≡ b) ⊎ Has xs b →
        (first_pair test xs ≡ None → Has xs a → Has xs b → R a b → test a b ≡ false) → test a b ≡ false
    go (Some y) e h ma mb ih = absurd (cc)
    go None e h (inl u) (inl v) ih = let same : a ≡ b = sym u ∙ v in absurd (strict a b r (subst (λ (w : X). R w a) same (subst (λ (w : X). R a w) (sym same) r)))
    go None e h (inl u) (inr v) ih = ap (λ (w : X). test w b) (sym u) ∙ find_none_Has (test x) xs b e v
    go None e h (inr u) (inl v) ih = absurd (strict a b r (subst (λ (w : X). R w a) v (Has_each (R x) xs a s.0 u)))
    go None e h (inr u) (inr v) ih = ih h u v r

-- a pair that passes does not come before the one that `first_pair` gives
pair_least : {X : Type 0} (R : X → X → Type 0) (test : X → X → Bool) (xs : List X) (p : X × X) (a b : X) → IsStrict R → IsSorted R xs → first_pair test xs ≡ Some p →
    Has xs a → Has xs b → R a b → test a b ≡ true → R p.0 a ⊎ ((p.0 ≡ a) × (R p.1 b ⊎ (p.1 ≡ b)))
unfolding first_pair IsSorted
pair_least R test [] p a b strict s h ma mb r k = absurd ma
pair_least {X} R test (x ∷ xs) p a b strict s h ma mb r k = go (find (test x) xs) refl h ma mb (pair_least R test xs p a b strict s.1)
  where
    Least : X × X → Type 0
    Least p = R p.0 a ⊎ ((p.0 ≡ a) × (R p.1 b ⊎ (p.1 ≡ b)))

    never : R a b → a ≡ b → ⊥
    never r same = strict a b r (subst (λ (w : X). R w a) same (subst (λ (w : X). R a w) (sym same) r))

    go : (o : Option X) → find (test x) xs ≡ o → option_or (option_map (λ y. (x, y)) o) (first_pair test xs) ≡ Some p → (x ≡ a) ⊎ Has xs a → (x ≡ b) ⊎ Has xs b →
        (first_pair test xs ≡ Some p → Has xs a → Has xs b → R a b → test a b ≡ true → Least p) → Least p
    go None e h (inl u) (inl v) ih = absurd (never r (sym u ∙ v))
    go None e h (inl u) (inr v) ih = absurd (false≢true (sym (find_none_Has (test x) xs b e v) ∙ ap (λ (w : X). test w b) u ∙ k))
    go None e h (inr u) (inl v) ih = absurd (strict a b r (subst (λ (w : X). R w a) v (Has_each (R x) xs a s.0 u)))
    go None e h (inr u) (inr v) ih = ih h u v r k
    go (Some y) e h ma mb ih =
        let same : (let q : X × X = (x, y) in q) ≡ p = cc in
        subst Least same (at ma mb)
      where
        at : (x ≡ a) ⊎ Has xs a → (x ≡ b) ⊎ Has xs b → Least (x, y)
        at (inr u) mb = inl (Has_each (R x) xs a s.0 u)
        at (inl u) (inl v) = absurd (never r (sym u ∙ v))
        at (inl u) (inr v) = inr (u, find_first R (test x) xs y b s.1 e v (ap (λ (w : X). test w b) u ∙ k))

sorted_at : {X : Type 0} (R : X → X → Type 0) (front between back : List X) (x y : X) → IsSorted R (front ++ x ∷ (between ++ y ∷ back)) → R x y
unfolding IsSorted
sorted_at R [] between back x y s = Has_each (R x) _ y s.0 (Has_middle between back y)
sorted_at R (z ∷ front) between back x y s = sorted_at R front between back x y s.1

spots_strict : (s t : Spot) → SpotBefore s t → SpotBefore t s → ⊥
spots_strict s t (inl a) (inl b) = omega arith
spots_strict s t (inl a) (inr b) = let same = b.0 in omega arith
spots_strict s t (inr a) (inl b) = let same = a.0 in omega arith
spots_strict s t (inr a) (inr b) = let x = a.1 in let y = b.1 in omega arith

pub seen_strict : IsStrict SeenBefore
seen_strict x y a b = spots_strict x.spot y.spot a b

-- a finding that is given is that of the least pair
pub finding_is_least : (game : Game) (logs : List (List Entry)) (q t : ℕ) (k : Kind) (f : Finding) → finding_at game logs q t k ≡ Some f → IsLeastPair game logs f
unfolding finding_at
finding_is_least game logs q t k f h = go (first_pair (show_kind game q t logs k) (sightings q t 0 logs)) refl h
  where
    ss : List Sighting
    ss = sightings q t 0 logs

    test : Sighting → Sighting → Bool
    test = show_kind game q t logs k

    go : (o : Option (Sighting × Sighting)) → first_pair test ss ≡ o → option_map (finding_of q t k) o ≡ Some f → IsLeastPair game logs f
    go None e h = absurd (let e : None ≡ Some f = h in cc)
    go (Some p) e h =
        let r = first_pair_stands test ss p e in
        let same : finding_of q t k p ≡ f = cc in
        let lower_in : Has ss p.0 = subst (λ (xs : List Sighting). Has xs p.0) (sym r.stand) (Has_middle r.front (r.between ++ p.1 ∷ r.back) p.0) in
        let higher_in : Has ss p.1 =
        subst (λ (xs : List Sighting). Has xs p.1) (sym r.stand) (Has_back r.front _ p.1 (inr (Has_middle r.between r.back p.1))) in
        subst (λ (g : Finding). IsLeastPair game logs g) same (record {
          lower = p.0;
          higher = p.1;
          first_is = refl;
          second_is = refl;
          lower_seen = seen_is_sighting q t logs p.0 lower_in;
          higher_seen = seen_is_sighting q t logs p.1 higher_in;
          in_order = sorted_at SeenBefore r.front r.between r.back p.0 p.1 (subst (λ (xs : List Sighting). IsSorted SeenBefore xs) r.stand (sightings_sorted q t 0 logs));
          shown = r.passes;
          least = λ a b sa sb before shows. least p a b e (sighting_is_seen q t logs a sa) (sighting_is_seen q t logs b sb) before shows;
        })
      where
        least : (p : Sighting × Sighting) (a b : Sighting) → first_pair test ss ≡ Some p → Has ss a → Has ss b → SeenBefore a b → test a b ≡ true →
            SpotBefore p.0.spot a.spot ⊎ ((p.0.spot ≡ a.spot) × (SpotBefore p.1.spot b.spot ⊎ (p.1.spot ≡ b.spot)))
        least p a b e ma mb before shows = at (pair_least SeenBefore test ss p a b seen_strict (sightings_sorted q t 0 logs) e ma mb before shows)
          where
            second : SeenBefore p.1 b ⊎ (p.1 ≡ b) → SpotBefore p.1.spot b.spot ⊎ (p.1.spot ≡ b.spot)
            second (inl x) = inl x
            second (inr y) = inr (ap (λ (s : Sighting). s.spot) y)

            at : SeenBefore p.0 a ⊎ ((p.0 ≡ a) × (SeenBefore p.1 b ⊎ (p.1 ≡ b))) →
                SpotBefore p.0.spot a.spot ⊎ ((p.0.spot ≡ a.spot) × (SpotBefore p.1.spot b.spot ⊎ (p.1.spot ≡ b.spot)))
            at (inl x) = inl x
            at (inr y) = inr (ap (λ (s : Sighting). s.spot) y.0, second y.1)

-- neither of two spots comes before the other's, so they are one
one_spot : (s t : Spot) → SpotBefore s t ⊎ (s ≡ t) → SpotBefore t s ⊎ (t ≡ s) → s ≡ t
one_spot s t (inr e) b = e
one_spot s t (inl a) (inr e) = sym e
one_spot s t (inl a) (inl b) = absurd (spots_strict s t a b)

-- two pairs of spots, neither of which comes before the other, are one
one_pair : (s t s' t' : Spot) → SpotBefore s s' ⊎ ((s ≡ s') × (SpotBefore t t' ⊎ (t ≡ t'))) → SpotBefore s' s ⊎ ((s' ≡ s) × (SpotBefore t' t ⊎ (t' ≡ t))) → (s ≡ s') × (t ≡ t')
one_pair s t s' t' (inl a) (inl b) = absurd (spots_strict s s' a b)
one_pair s t s' t' (inl a) (inr b) = absurd (spots_strict s s' a (subst (λ (u : Spot). SpotBefore s' u) b.0 (subst (λ (u : Spot). SpotBefore u s') (sym b.0) a)))
one_pair s t s' t' (inr a) (inl b) = absurd (spots_strict s' s b (subst (λ (u : Spot). SpotBefore s u) a.0 (subst (λ (u : Spot). SpotBefore u s) (sym a.0) b)))
one_pair s t s' t' (inr a) (inr b) = (a.0, one_spot t t' a.1 b.1)

pub found_some : (game : Game) (logs : List (List Entry)) (q t : ℕ) (k : Kind) → (first_pair (show_kind game q t logs k) (sightings q t 0 logs) ≡ None → ⊥) →
    (g : Finding) × (finding_at game logs q t k ≡ Some g)
unfolding finding_at
found_some game logs q t k h = go (first_pair (show_kind game q t logs k) (sightings q t 0 logs)) h
  where
    go : (o : Option (Sighting × Sighting)) → (o ≡ None → ⊥) → (g : Finding) × (option_map (finding_of q t k) o ≡ Some g)
    go None h = absurd (h refl)
    go (Some p) h = (finding_of q t k p, refl)

-- the same player, turn, kind and spots make the same finding
finding_from : (g f : Finding) → g.player ≡ f.player → g.turn ≡ f.turn → g.kind ≡ f.kind → g.first ≡ f.first → g.second ≡ f.second → g ≡ f
finding_from g f a b c d e =
    let at_player : ℕ → Finding = λ x. record { player = x; turn = g.turn; kind = g.kind; first = g.first; second = g.second } in
    let at_turn : ℕ → Finding = λ x. record { player = f.player; turn = x; kind = g.kind; first = g.first; second = g.second } in
    let at_kind : Kind → Finding = λ x. record { player = f.player; turn = f.turn; kind = x; first = g.first; second = g.second } in
    let at_first : Spot → Finding = λ x. record { player = f.player; turn = f.turn; kind = f.kind; first = x; second = g.second } in
    let at_second : Spot → Finding = λ x. record { player = f.player; turn = f.turn; kind = f.kind; first = f.first; second = x } in
    ap at_player a ∙ ap at_turn b ∙ ap at_kind c ∙ ap at_first d ∙ ap at_second e

-- a pair of the finding's own kind of the same turn, as the least one of another finding says it
abbrev LeastOf : Game → List (List Entry) → Finding → ℕ → ℕ → Kind → Type 0
LeastOf game logs f q t k = (a b : Sighting) → IsSighting logs q t a → IsSighting logs q t b → SpotBefore a.spot b.spot → show_kind game q t logs k a b ≡ true →
    SpotBefore f.first a.spot ⊎ ((f.first ≡ a.spot) × (SpotBefore f.second b.spot ⊎ (f.second ≡ b.spot)))

same_least : (game : Game) (logs : List (List Entry)) (g f : Finding) → g.player ≡ f.player → g.turn ≡ f.turn → g.kind ≡ f.kind →
    IsLeastPair game logs g → IsLeastPair game logs f → g ≡ f
same_least game logs g f player turn kind v w = finding_from g f player turn kind spots.0 spots.1
  where
    ours : LeastOf game logs g f.player f.turn f.kind
    ours = subst (λ (n : ℕ). LeastOf game logs g n f.turn f.kind) player
        (subst (λ (n : ℕ). LeastOf game logs g g.player n f.kind) turn (subst (λ (k : Kind). LeastOf game logs g g.player g.turn k) kind v.least))

    theirs : LeastOf game logs f g.player g.turn g.kind
    theirs = subst (λ (n : ℕ). LeastOf game logs f n g.turn g.kind) (sym player)
        (subst (λ (n : ℕ). LeastOf game logs f f.player n g.kind) (sym turn) (subst (λ (k : Kind). LeastOf game logs f f.player f.turn k) (sym kind) w.least))

    Within : Spot → Spot → Spot → Spot → Type 0
    Within s t s' t' = SpotBefore s s' ⊎ ((s ≡ s') × (SpotBefore t t' ⊎ (t ≡ t')))

    one : Within g.first g.second f.first f.second
    one = subst (λ (s : Spot). Within g.first g.second s f.second) (sym w.first_is)
        (subst (λ (s : Spot). Within g.first g.second w.lower.spot s) (sym w.second_is) (ours w.lower w.higher w.lower_seen w.higher_seen w.in_order w.shown))

    other : Within f.first f.second g.first g.second
    other = subst (λ (s : Spot). Within f.first f.second s g.second) (sym v.first_is)
        (subst (λ (s : Spot). Within f.first f.second v.lower.spot s) (sym v.second_is) (theirs v.lower v.higher v.lower_seen v.higher_seen v.in_order v.shown))

    spots : (g.first ≡ f.first) × (g.second ≡ f.second)
    spots = one_pair g.first g.second f.first f.second one other

-- the finding of the least pair is given
pub least_is_finding : (game : Game) (logs : List (List Entry)) (f : Finding) → IsLeastPair game logs f → finding_at game logs f.player f.turn f.kind ≡ Some f
least_is_finding game logs f w =
    let there = found_some game logs f.player f.turn f.kind none in
    let of = finding_at_kind game logs f.player f.turn f.kind there.0 there.1 in
    there.1 ∙ ap (λ (x : Finding). Some x) (same_least game logs there.0 f of.0 of.1 of.2 (finding_is_least game logs f.player f.turn f.kind there.0 there.1) w)
  where
    test : Sighting → Sighting → Bool
    test = show_kind game f.player f.turn logs f.kind

    none : first_pair test (sightings f.player f.turn 0 logs) ≡ None → ⊥
    none e =
        false≢true (sym (pair_none SeenBefore test (sightings f.player f.turn 0 logs) w.lower w.higher seen_strict (sightings_sorted f.player f.turn 0 logs) e
        (sighting_is_seen f.player f.turn logs w.lower w.lower_seen) (sighting_is_seen f.player f.turn logs w.higher w.higher_seen) w.in_order) ∙ w.shown)

Has_kinds : (k : Kind) → Has kinds k
Has_kinds TwoCommits = inl refl
Has_kinds BadOpening = inr (inl refl)
Has_kinds Collision = inr (inr (inl refl))
Has_kinds Illegal = inr (inr (inr (inl refl)))

-- what is given for a player and a turn of the session stands among the findings
pub Has_findings : (game : Game) (logs : List (List Entry)) (q t : ℕ) (k : Kind) (f : Finding) → q < players_of game → t < game.turns → finding_at game logs q t k ≡ Some f →
    Has (findings game logs) f
unfolding findings findings_in
Has_findings game logs q t k f ql tl e =
    Has_flat_map (λ q. flat_map (λ t. filter_map (finding_at game logs q t) kinds) (range_with_len 0 game.turns)) (range_with_len 0 (players_of game)) q f
    (Has_range 0 (players_of game) q (omega arith) (omega arith))
    (Has_flat_map (λ t. filter_map (finding_at game logs q t) kinds) (range_with_len 0 game.turns) t f (Has_range 0 game.turns t (omega arith) (omega arith))
    (Has_filter_map (finding_at game logs q t) kinds k f (Has_kinds k) e))

-- what stands among the findings is given for its player, turn and kind
pub findings_Has : (game : Game) (logs : List (List Entry)) (f : Finding) → Has (findings game logs) f →
    (f.player < players_of game) × (f.turn < game.turns) × (finding_at game logs f.player f.turn f.kind ≡ Some f)
unfolding findings findings_in
findings_Has game logs f m =
    let a = flat_map_Has (λ q. flat_map (λ t. filter_map (finding_at game logs q t) kinds) (range_with_len 0 game.turns)) (range_with_len 0 (players_of game)) f m in
    let b = flat_map_Has (λ t. filter_map (finding_at game logs a.0 t) kinds) (range_with_len 0 game.turns) f a.2 in
    let c = filter_map_Has (finding_at game logs a.0 b.0) kinds f b.2 in
    let of = finding_at_kind game logs a.0 b.0 c.0 f c.2 in
    let player = range_Has 0 (players_of game) a.0 a.1 in
    let turn = range_Has 0 game.turns b.0 b.1 in
    let q = player.1 in
    let t = turn.1 in
    let is_player = of.0 in
    let is_turn = of.1 in (
      omega arith,
      omega arith,
      subst (λ (n : ℕ). finding_at game logs n f.turn f.kind ≡ Some f) (sym of.0)
          (subst (λ (n : ℕ). finding_at game logs a.0 n f.kind ≡ Some f) (sym of.1) (subst (λ (k : Kind). finding_at game logs a.0 b.0 k ≡ Some f) (sym of.2) c.2)),
    )
