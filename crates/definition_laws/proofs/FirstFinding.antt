-- FirstFinding: a log that got a frame last and was clean before has findings of that frame's player alone.
use Rattle.std.proofs.Common.{◌≡◌, ℕ, zero, suc, ◌+◌, ◌<◌, ◌≤◌, List, [], ◌∷◌, ◌++◌, refl, Bool, true, sym, ◌∙◌, ap, subst, arith, inl, inr, Option, Some, None}
use Rattle.std.specs.Prelude.{◌==◌, ◌&&◌, filter_map, flat_map, min, is_none, is_some, slice_get, if◌then◌else◌}
use Rattle.std.specs.List.{range_with_len}
use Rattle.std.specs.Option.{option_or}
use Rattle.std.proofs.lemmas.Bool.{cases_lt, ne_eqb, false≢true}
use Rattle.definitions.specs.declared.frames.TurnFrame.{TurnFrame}
use Rattle.definitions.specs.declared.logs.Entry.{Entry}
use Rattle.definitions.specs.declared.logs.Entry.TheVariants.{Got}
use Rattle.definitions.specs.declared.findings.Kind.{Kind}
use Rattle.definitions.specs.declared.findings.Finding.{Finding}
use Rattle.definitions.specs.Lists.{first_of, is_empty}
use Rattle.definitions.specs.World.{Game, players_of}
use Rattle.definitions.specs.Logs.{got_in, got_of, turn_of}
use Rattle.definitions.specs.Findings.{Sighting, finding_at, findings, findings_in, is_clean, kinds, sighting_at, sightings_from}
use Rattle.definition_laws.specs.Members.{Has}
use Rattle.definition_laws.proofs.Listing.{append_nil, flat_map_append}
use Rattle.definition_laws.proofs.Least.{Has_findings}
use Rattle.definition_laws.specs.First.{IsGotBehind, finding_of_log, finding_of_turn}
use Rattle.definition_laws.proofs.Room.{clean_none}
use Rattle.definition_laws.proofs.Alone.{finding_same, finding_unseen}

-- the first item of joined and of mapped lists
head_append : {X : Type 0} (xs ys : List X) → slice_get (xs ++ ys) 0 ≡ option_or (slice_get xs 0) (slice_get ys 0)
head_append [] ys = refl
head_append (x ∷ xs) ys = refl

head_flat_map : {X Y : Type 0} (f : X → List Y) (xs : List X) → slice_get (flat_map f xs) 0 ≡ first_of (λ x. slice_get (f x) 0) xs
head_flat_map f [] = refl
head_flat_map f (x ∷ xs) = head_append (f x) (flat_map f xs) ∙ ap (option_or (slice_get (f x) 0)) (head_flat_map f xs)

head_filter_map : {X Y : Type 0} (f : X → Option Y) (xs : List X) → slice_get (filter_map f xs) 0 ≡ first_of f xs
head_filter_map f [] = refl
head_filter_map {X} {Y} f (x ∷ xs) = go (f x) refl (head_filter_map f xs)
  where
    go : (o : Option Y) → f x ≡ o → slice_get (filter_map f xs) 0 ≡ first_of f xs → slice_get (filter_map f (x ∷ xs)) 0 ≡ option_or (f x) (first_of f xs)
    go None e ih = rw e ih
    go (Some y) e ih = rw e refl

first_alike : {X Y : Type 0} (f g : X → Option Y) (xs : List X) → ((x : X) → f x ≡ g x) → first_of f xs ≡ first_of g xs
first_alike f g [] h = refl
first_alike f g (x ∷ xs) h = ap (λ o. option_or o (first_of f xs)) (h x) ∙ ap (option_or (g x)) (first_alike f g xs h)

first_nowhere : {X Y : Type 0} (f : X → Option Y) (xs : List X) → ((x : X) → f x ≡ None) → first_of f xs ≡ None
first_nowhere f [] h = refl
first_nowhere f (x ∷ xs) h = ap (λ o. option_or o (first_of f xs)) (h x) ∙ first_nowhere f xs h

-- over a range: nothing anywhere, the first that is something, and the only one that may be
pub first_none_in : {Y : Type 0} (f : ℕ → Option Y) (a n : ℕ) → ((t : ℕ) → a ≤ t → t < a + n → f t ≡ None) → first_of f (range_with_len a n) ≡ None
first_none_in f a zero h = refl
first_none_in f a (suc n) h =
    ap (λ o. option_or o (first_of f (range_with_len (a + 1) n))) (h a (omega arith) (omega arith)) ∙ first_none_in f (a + 1) n (λ t le lt. h t (omega arith) (omega arith))

option_or_some : {Y : Type 0} (o p : Option Y) → is_some o ≡ true → option_or o p ≡ o
option_or_some None p h = absurd (false≢true h)
option_or_some (Some y) p h = refl

option_or_none : {Y : Type 0} (o : Option Y) → option_or o None ≡ o
option_or_none None = refl
option_or_none (Some y) = refl

first_only_in : {Y : Type 0} (f : ℕ → Option Y) (a n q : ℕ) → a ≤ q → q < a + n → ((p : ℕ) → a ≤ p → p < a + n → (p ≡ q → ⊥) → f p ≡ None) → first_of f (range_with_len a n) ≡ f q
first_only_in f a zero q le lt h = absurd (omega arith)
first_only_in f a (suc n) q le lt h =
    elim (cases_lt a q) [
      | inl before ↦
          ap (λ o. option_or o (first_of f (range_with_len (a + 1) n))) (h a (omega arith) (omega arith) (λ e. omega arith))
          ∙ first_only_in f (a + 1) n q (omega arith) (omega arith) (λ p le lt other. h p (omega arith) (omega arith) other)
      | inr after ↦
          let here : a ≡ q = omega arith in
          ap (option_or (f a)) (first_none_in f (a + 1) n (λ t le lt. h t (omega arith) (omega arith) (λ e. omega arith))) ∙ option_or_none (f a) ∙ ap f here
    ]

first_at_in : {Y : Type 0} (f : ℕ → Option Y) (a n i : ℕ) → a ≤ i → i < a + n → ((t : ℕ) → a ≤ t → t < i → f t ≡ None) → is_some (f i) ≡ true → first_of f (range_with_len a n) ≡ f i
first_at_in f a zero i le lt h some = absurd (omega arith)
first_at_in f a (suc n) i le lt h some =
    elim (cases_lt a i) [
      | inl before ↦
          ap (λ o. option_or o (first_of f (range_with_len (a + 1) n))) (h a (omega arith) before)
          ∙ first_at_in f (a + 1) n i (omega arith) (omega arith) (λ t le lt. h t (omega arith) lt) some
      | inr after ↦
          let here : a ≡ i = omega arith in
          option_or_some (f a) (first_of f (range_with_len (a + 1) n)) (ap (λ n. is_some (f n)) here ∙ some) ∙ ap f here
    ]

-- the findings in the order of players, turns and kinds
log_first : (game : Game) (h : List Entry) →
    finding_of_log game h ≡ first_of (λ p. first_of (λ t. first_of (finding_at game (h ∷ []) p t) kinds) (range_with_len 0 game.turns)) (range_with_len 0 (players_of game))
unfolding findings findings_in
log_first game h =
    head_flat_map (λ p. flat_map (findings_in game (h ∷ []) p) (range_with_len 0 game.turns)) (range_with_len 0 (players_of game))
    ∙ first_alike _ _ (range_with_len 0 (players_of game)) (λ p.
    head_flat_map (findings_in game (h ∷ []) p) (range_with_len 0 game.turns)
    ∙ first_alike _ _ (range_with_len 0 game.turns) (λ t. head_filter_map (finding_at game (h ∷ []) p t) kinds))

-- a log without a finding has none of any kind
clean_nothing : (game : Game) (g : List Entry) (p t : ℕ) (k : Kind) → is_clean game g ≡ true → p < players_of game → t < game.turns → finding_at game (g ∷ []) p t k ≡ None
clean_nothing game g p t k clean pl tl = go (finding_at game (g ∷ []) p t k) refl
  where
    go : (o : Option Finding) → finding_at game (g ∷ []) p t k ≡ o → o ≡ None
    go None e = refl
    go (Some f) e = absurd (subst (λ (fs : List Finding). Has fs f) (clean_none game g clean) (Has_findings game (g ∷ []) p t k f pl tl e))

got_not : (p q : ℕ) (g : List Entry) (f : TurnFrame) → (p ≡ q → ⊥) → got_of p g ≡ got_of p (g ++ Got q f ∷ [])
unfolding got_of
got_not p q g f other =
    let none : got_in p (Got q f) ≡ [] = ap (λ (b : Bool). if b then f ∷ [] else []) (ne_eqb q p (λ e. other (sym e))) in
    sym (flat_map_append (got_in p) g (Got q f ∷ []) ∙ ap (λ (fs : List TurnFrame). flat_map (got_in p) g ++ (fs ++ [])) none ∙ append_nil (flat_map (got_in p) g))

sights_not : (p q t i : ℕ) (g : List Entry) (f : TurnFrame) → (p ≡ q → ⊥) → sightings_from p t 0 i g ≡ sightings_from p t 0 i (g ++ Got q f ∷ [])
unfolding sightings_from
sights_not p q t i [] f other =
    let none : sighting_at p t 0 i (Got q f) ≡ [] =
    ap (λ (b : Bool). if b && (turn_of f == t) then record { spot = record { log = 0; entry = i }; frame = f } ∷ [] else []) (ne_eqb q p (λ e. other (sym e))) in
    sym (ap (λ (ss : List Sighting). ss ++ []) none)
sights_not p q t i (e ∷ g) f other = ap (λ (ss : List Sighting). sighting_at p t 0 i e ++ ss) (sights_not p q t (i + 1) g f other)

-- the first finding is that of the frame's player
pub first_is : (game : Game) (q : ℕ) (h : List Entry) → q < players_of game → IsGotBehind game q h →
    finding_of_log game h ≡ first_of (finding_of_turn game h q) (range_with_len 0 game.turns)
first_is game q h lt w =
    log_first game h
    ∙ first_only_in (λ p. first_of (λ t. first_of (finding_at game (h ∷ []) p t) kinds) (range_with_len 0 game.turns)) 0 (players_of game) q (omega arith) (omega arith)
    (λ p le pl other. first_none_in (λ t. first_of (finding_at game (h ∷ []) p t) kinds) 0 game.turns (λ t tle tl. first_nowhere (finding_at game (h ∷ []) p t) kinds (λ k.
    ap (λ (x : List Entry). finding_at game (x ∷ []) p t k) w.stands
    ∙ sym (finding_same game p t w.before (w.before ++ Got q w.frame ∷ []) k (got_not p q w.before w.frame other) (sights_not p q t 0 w.before w.frame other))
    ∙ clean_nothing game w.before p t k w.clean (omega arith) (omega arith))))

-- a scan of the turns, at one that has a finding and past the last
pub turn_found : (game : Game) (q i : ℕ) (h : List Entry) (found : Option Finding) (some : Bool) → q < players_of game → IsGotBehind game q h → i < game.turns →
    ((t : ℕ) → t < i → finding_of_turn game h q t ≡ None) → found ≡ finding_of_turn game h q i → some ≡ is_some found → some ≡ true → found ≡ finding_of_log game h
turn_found game q i h found some lt w turn none is test holds =
    is ∙ sym (first_at_in (finding_of_turn game h q) 0 game.turns i (omega arith) (omega arith) (λ t le tl. none t tl) (ap is_some (sym is) ∙ sym test ∙ holds)) ∙ sym (first_is game q h lt w)

pub turn_none : (game : Game) (q i n : ℕ) (h : List Entry) → q < players_of game → IsGotBehind game q h → min game.turns n ≤ i →
    ((t : ℕ) → n ≤ t → sightings_from q t 0 0 h ≡ []) → ((t : ℕ) → t < i → finding_of_turn game h q t ≡ None) → None ≡ finding_of_log game h
turn_none game q i n h lt w past unseen none =
    sym (first_none_in (finding_of_turn game h q) 0 game.turns (λ t le tl.
    elim (cases_lt t i) [
      | inl before ↦ none t before
      | inr after ↦ first_nowhere (finding_at game (h ∷ []) q t) kinds (λ k. finding_unseen game q t h k (unseen t (omega arith)))
    ]))
    ∙ sym (first_is game q h lt w)

-- a log is clean where it has no first finding
pub clean_is_none : (game : Game) (h : List Entry) (found : Option Finding) → found ≡ finding_of_log game h → is_clean game h ≡ is_none found
unfolding is_clean
clean_is_none game h found e = go (findings game (h ∷ [])) ∙ ap is_none (sym e)
  where
    go : (fs : List Finding) → is_empty fs ≡ is_none (slice_get fs 0)
    go [] = refl
    go (f ∷ fs) = refl
