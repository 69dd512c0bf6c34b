-- Where two logs resolve a player's turn by different moves, that player is named.
use Rattle.std.proofs.Common.{Bool, List, None, Some, [], ap, append_assoc, false, inl, inr, refl, subst, suc, sym, true, zero, ℕ, ◌*◌, ◌++◌, ◌+◌, ◌∙◌, ◌∷◌, ◌≡◌, ◌⊎◌}
use Rattle.std.specs.Prelude.{Option, flat_map, if◌then◌else◌, is_some, not, option_map, slice_get, ◌&&◌, ◌==◌}
use Rattle.std.specs.Option.{option_or}
use Rattle.std.proofs.lemmas.Bool.{and_from, and_parts, cases_Bool, eq-eqb, eqb-true, false_from_ne_true, false≢true}
use Rattle.definitions.specs.declared.frames.TurnFrame.TheVariants.{Commit, Reveal}
use Rattle.definitions.specs.Logs.{digest_eq, frame_eq, got_in, got_of, move_eq, turn_of}
use Rattle.definitions.specs.declared.logs.Entry.TheVariants.{Chose, Got, Made}
use Rattle.definitions.specs.declared.findings.Kind.{Kind}
use Rattle.definitions.specs.Findings.{Sighting, are_collision, are_two_commits, finding_at, finding_of, first_pair, got_known, show_kind, sightings, sightings_from}
use Rattle.definitions.specs.declared.frames.TurnFrame.{TurnFrame}
use Rattle.definitions.specs.Held.{digest_of, first_commit}
use Rattle.definitions.specs.declared.findings.Kind.TheVariants.{Collision, TwoCommits}
use Rattle.definitions.specs.declared.logs.Entry.{Entry}
use Rattle.definitions.specs.declared.openings.Digest.{Digest}
use Rattle.definitions.specs.declared.world.Move.{Move}
use Rattle.definitions.specs.declared.openings.Nonce.{Nonce}
use Rattle.definitions.specs.World.{Game}
use Rattle.definition_laws.proofs.Listing.{find_none_at, split_two}
use Rattle.definition_laws.proofs.Headline.{IsOpened, IsSound, known_to_sound}
use Rattle.definition_laws.proofs.Alike.{digest_eq_same, digest_eq_true, move_eq_true}

-- one of these sightings is of the frame
pub record IsSeen (ss : List Sighting) (f : TurnFrame) : Type 0 where
  pub front : List Sighting
  pub at : Sighting
  pub back : List Sighting
  pub stand : ss ≡ front ++ at ∷ back
  pub is : at.frame ≡ f

seen_front : (xs ys : List Sighting) (f : TurnFrame) → IsSeen xs f → IsSeen (xs ++ ys) f
seen_front xs ys f s = record {
  front = s.front;
  at = s.at;
  back = s.back ++ ys;
  stand = ap (λ (zs : List Sighting). zs ++ ys) s.stand ∙ append_assoc s.front (s.at ∷ s.back) ys;
  is = s.is;
}

seen_back : (xs ys : List Sighting) (f : TurnFrame) → IsSeen ys f → IsSeen (xs ++ ys) f
seen_back xs ys f s = record {
  front = xs ++ s.front;
  at = s.at;
  back = s.back;
  stand = ap (λ (zs : List Sighting). xs ++ zs) s.stand ∙ sym (append_assoc xs s.front (s.at ∷ s.back));
  is = s.is;
}

got_seen : (q t log i : ℕ) (h : List Entry) (f : TurnFrame) (front back : List TurnFrame) → turn_of f ≡ t → flat_map (got_in q) h ≡ front ++ f ∷ back → IsSeen (sightings_from q t log i h) f
unfolding sightings_from
got_seen q t log i [] f front back turn e = absurd (empty front e)
  where
    empty : (xs : List TurnFrame) → [] ≡ xs ++ f ∷ back → ⊥
    empty [] e = cc
    empty (x ∷ xs) e = cc
got_seen q t log i (Chose u m n ∷ h) f front back turn e = got_seen q t log (i + 1) h f front back turn e
got_seen q t log i (Made g ∷ h) f front back turn e = got_seen q t log (i + 1) h f front back turn e
got_seen q t log i (Got p g ∷ h) f front back turn e =
    go (p == q) refl front e (λ front back turn e. got_seen q t log (i + 1) h f front back turn e)
  where
    spot : Sighting
    spot = record { spot = record { log = log; entry = i }; frame = g }

    rest : List Sighting
    rest = sightings_from q t log (i + 1) h

    go : (b : Bool) → (p == q) ≡ b → (xs : List TurnFrame) → (if b then g ∷ [] else []) ++ flat_map (got_in q) h ≡ xs ++ f ∷ back →
        ((front back : List TurnFrame) → turn_of f ≡ t → flat_map (got_in q) h ≡ front ++ f ∷ back → IsSeen rest f) →
        IsSeen ((if b && (turn_of g == t) then spot ∷ [] else []) ++ rest) f
    go false k xs e ih = ih xs back turn e
    go true k [] e ih =
        let same : g ≡ f = cc in
        let at_turn : (turn_of g == t) ≡ true = eq-eqb _ _ (ap turn_of same ∙ turn) in
        subst (λ (b : Bool). IsSeen ((if b then spot ∷ [] else []) ++ rest) f) (sym at_turn)
        (record { front = []; at = spot; back = rest; stand = refl; is = same })
    go true k (x ∷ xs) e ih =
        let tails : flat_map (got_in q) h ≡ xs ++ f ∷ back = cc in
        seen_back _ rest f (ih xs back turn tails)

first_commit_got : (fs : List TurnFrame) (t : ℕ) (d : Digest) → first_commit fs t ≡ Some d →
    (p : ℕ) × (front : List TurnFrame) × (back : List TurnFrame) × (fs ≡ front ++ Commit p t d ∷ back)
first_commit_got [] t d h = absurd (let e : None ≡ Some d = h in cc)
first_commit_got (Reveal p u m n ∷ fs) t d h =
    let r = first_commit_got fs t d h in (r.0, Reveal p u m n ∷ r.1, r.2, ap (λ (gs : List TurnFrame). Reveal p u m n ∷ gs) r.3)
first_commit_got (Commit p u e ∷ fs) t d h = go (u == t) refl h (first_commit_got fs t d)
  where
    go : (b : Bool) → (u == t) ≡ b → option_or (if b then Some e else None) (first_commit fs t) ≡ Some d →
        (first_commit fs t ≡ Some d → (p : ℕ) × (front : List TurnFrame) × (back : List TurnFrame) × (fs ≡ front ++ Commit p t d ∷ back)) →
        (q : ℕ) × (front : List TurnFrame) × (back : List TurnFrame) × (Commit p u e ∷ fs ≡ front ++ Commit q t d ∷ back)
    go true k h ih =
        let digest : e ≡ d = cc in
        let turn = eqb-true u t k in
        let same : Commit p u e ≡ Commit p t d = cc in
        (p, [], fs, ap (λ (f : TurnFrame). f ∷ fs) same)
    go false k h ih = let r = ih h in (r.0, Commit p u e ∷ r.1, r.2, ap (λ (gs : List TurnFrame). Commit p u e ∷ gs) r.3)

-- what is seen in a log is seen in the logs
seen_among : (q t n i : ℕ) (logs : List (List Entry)) (h : List Entry) (f : TurnFrame) → slice_get logs i ≡ Some h →
    ((log : ℕ) → IsSeen (sightings_from q t log 0 h) f) → IsSeen (sightings q t n logs) f
unfolding sightings
seen_among q t n i [] h f e s = absurd (let k : None ≡ Some h = e in cc)
seen_among q t n zero (g ∷ logs) h f e s =
    let same : g ≡ h = cc in
    seen_front _ _ f (subst (λ (k : List Entry). IsSeen (sightings_from q t n 0 k) f) (sym same) (s n))
seen_among q t n (suc i) (g ∷ logs) h f e s = seen_back _ _ f (seen_among q t (n + 1) i logs h f e s)

pair_none : {X : Type 0} (x : X) (o : Option X) (p : Option (X × X)) → option_or (option_map (λ y. (x, y)) o) p ≡ None → (o ≡ None) × (p ≡ None)
pair_none x None p h = (refl, h)
pair_none x (Some y) p h = absurd (cc)

first_pair_none_at : {X : Type 0} (test : X → X → Bool) (front between back : List X) (x y : X) →
    first_pair test (front ++ x ∷ (between ++ y ∷ back)) ≡ None → test x y ≡ false
unfolding first_pair
first_pair_none_at test [] between back x y h = find_none_at (test x) between back y (pair_none x _ _ h).0
first_pair_none_at test (z ∷ front) between back x y h = first_pair_none_at test front between back x y (pair_none z _ _ h).1

-- of two different frames that are seen one stands before the other
seen_apart : (ss : List Sighting) (f g : TurnFrame) (test : Sighting → Sighting → Bool) → (f ≡ g → ⊥) → IsSeen ss f → IsSeen ss g →
    ((a b : Sighting) → a.frame ≡ f → b.frame ≡ g → (test a b ≡ true) × (test b a ≡ true)) → first_pair test ss ≡ None → ⊥
seen_apart ss f g test apart s t both none = go (split_two s.front t.front s.at t.at s.back t.back (sym s.stand ∙ t.stand))
  where
    tests : (test s.at t.at ≡ true) × (test t.at s.at ≡ true)
    tests = both s.at t.at s.is t.is

    go : (s.at ≡ t.at) ⊎ (((between : List Sighting) × (s.back ≡ between ++ t.at ∷ t.back)) ⊎ ((between : List Sighting) × (t.back ≡ between ++ s.at ∷ s.back))) → ⊥
    go (inl e) = apart (sym s.is ∙ ap (λ (a : Sighting). a.frame) e ∙ t.is)
    go (inr (inl m)) =
        let at = s.stand ∙ ap (λ (zs : List Sighting). s.front ++ s.at ∷ zs) m.1 in
        let never = first_pair_none_at test s.front m.0 t.back s.at t.at (ap (first_pair test) (sym at) ∙ none) in
        false≢true (sym never ∙ tests.0)
    go (inr (inr m)) =
        let at = t.stand ∙ ap (λ (zs : List Sighting). t.front ++ t.at ∷ zs) m.1 in
        let never = first_pair_none_at test t.front m.0 s.back t.at s.at (ap (first_pair test) (sym at) ∙ none) in
        false≢true (sym never ∙ tests.1)

found_unless : (game : Game) (logs : List (List Entry)) (q t : ℕ) (k : Kind) → (first_pair (show_kind game q t logs k) (sightings q t 0 logs) ≡ None → ⊥) →
    is_some (finding_at game logs q t k) ≡ true
unfolding finding_at
found_unless game logs q t k h = go (first_pair (show_kind game q t logs k) (sightings q t 0 logs)) h
  where
    go : (o : Option (Sighting × Sighting)) → (o ≡ None → ⊥) → is_some (option_map (finding_of q t k) o) ≡ true
    go None h = absurd (h refl)
    go (Some p) h = refl

digest_eq_apart : (d e : Digest) → (d ≡ e → ⊥) → digest_eq d e ≡ false
digest_eq_apart d e h = false_from_ne_true (digest_eq d e) (λ k. h (digest_eq_true d e k))

reveals_differ : (p t q u : ℕ) (m k : Move) (n o : Nonce) → (m ≡ k → ⊥) → not (frame_eq (Reveal p t m n) (Reveal q u k o)) ≡ true
reveals_differ p t q u m k n o apart =
    ap not (false_from_ne_true (frame_eq (Reveal p t m n) (Reveal q u k o))
    (λ e. apart (move_eq_true m k (and_parts ((p == q) && (t == u)) (move_eq m k) (and_parts _ _ e).0).1)))

digests_same : (d e : Digest) → d ≡ e → digest_eq d e ≡ true
digests_same d e h = ap (digest_eq d) (sym h) ∙ digest_eq_same d

both_ways : (test : TurnFrame → TurnFrame → Bool) (f g : TurnFrame) → test f g ≡ true → test g f ≡ true → (a b : Sighting) → a.frame ≡ f → b.frame ≡ g →
    (test a.frame b.frame ≡ true) × (test b.frame a.frame ≡ true)
both_ways test f g h k a b x y = (rw (x, y) h, rw (x, y) k)

-- where two logs resolve a turn of a player by different moves, two commitments of it, or two reveals with one digest, are found
pub accused : (game : Game) (logs : List (List Entry)) (i j q t : ℕ) (g h : List Entry) (m k : Move) → slice_get logs i ≡ Some g → slice_get logs j ≡ Some h →
    slice_get (got_known game q g).moves t ≡ Some m → slice_get (got_known game q h).moves t ≡ Some k → (m ≡ k → ⊥) →
    (is_some (finding_at game logs q t TwoCommits) ≡ true) ⊎ (is_some (finding_at game logs q t Collision) ≡ true)
unfolding show_kind digest_of got_of
accused game logs i j q t g h m k gi hj mg kh apart = go (cases_Bool (digest_eq a.0 b.0))
  where
    sound_g : IsSound game (got_of q g) (got_known game q g)
    sound_g = known_to_sound game q (got_of q g) (2 * game.turns)

    sound_h : IsSound game (got_of q h) (got_known game q h)
    sound_h = known_to_sound game q (got_of q h) (2 * game.turns)

    a : (d : Digest) × (slice_get (got_known game q g).digests t ≡ Some d) × IsOpened game (got_of q g) t m d
    a = sound_g.opens t m mg

    b : (d : Digest) × (slice_get (got_known game q h).digests t ≡ Some d) × IsOpened game (got_of q h) t k d
    b = sound_h.opens t k kh

    seen : (n : ℕ) (l : List Entry) (f : TurnFrame) → slice_get logs n ≡ Some l → turn_of f ≡ t → (front back : List TurnFrame) → got_of q l ≡ front ++ f ∷ back → IsSeen (sightings q t 0 logs) f
    seen n l f at turn front back e = seen_among q t 0 n logs l f at (λ log. got_seen q t log 0 l f front back turn e)

    go : (digest_eq a.0 b.0 ≡ true) ⊎ (digest_eq a.0 b.0 ≡ false) →
        (is_some (finding_at game logs q t TwoCommits) ≡ true) ⊎ (is_some (finding_at game logs q t Collision) ≡ true)
    go (inl same) =
        let digests : a.0 ≡ b.0 = digest_eq_true a.0 b.0 same in
        let f : TurnFrame = Reveal a.2.player t m a.2.nonce in
        let f' : TurnFrame = Reveal b.2.player t k b.2.nonce in
        let opens : digest_of game f ≡ a.0 = a.2.opens in
        let opens' : digest_of game f' ≡ b.0 = b.2.opens in
        let s = seen i g f gi refl a.2.front a.2.rest a.2.stands in
        let s' = seen j h f' hj refl b.2.front b.2.rest b.2.stands in
        inr (found_unless game logs q t Collision (seen_apart (sightings q t 0 logs) f f' (show_kind game q t logs Collision)
        (λ e. apart (let m_is : m ≡ k = cc in m_is)) s s'
        (both_ways (are_collision game) f f'
        (and_from (not (frame_eq f f')) _ (reveals_differ a.2.player t b.2.player t m k a.2.nonce b.2.nonce apart) (digests_same (digest_of game f) (digest_of game f') (opens ∙ digests ∙ sym opens')))
        (and_from (not (frame_eq f' f)) _ (reveals_differ b.2.player t a.2.player t k m b.2.nonce a.2.nonce (λ e. apart (sym e))) (digests_same (digest_of game f') (digest_of game f) (opens' ∙ sym digests ∙ sym opens))))))
    go (inr differ) =
        let apart_digests : a.0 ≡ b.0 → ⊥ = λ e. false≢true (sym differ ∙ ap (digest_eq a.0) (sym e) ∙ digest_eq_same a.0) in
        let c = first_commit_got (got_of q g) t a.0 (sound_g.first t a.0 a.1) in
        let c' = first_commit_got (got_of q h) t b.0 (sound_h.first t b.0 b.1) in
        let s = seen i g (Commit c.0 t a.0) gi refl c.1 c.2 c.3 in
        let s' = seen j h (Commit c'.0 t b.0) hj refl c'.1 c'.2 c'.3 in
        inl (found_unless game logs q t TwoCommits (seen_apart (sightings q t 0 logs) (Commit c.0 t a.0) (Commit c'.0 t b.0) (show_kind game q t logs TwoCommits)
        (λ e. apart_digests (let is : a.0 ≡ b.0 = cc in is)) s s'
        (both_ways (are_two_commits game) (Commit c.0 t a.0) (Commit c'.0 t b.0)
        (ap not (digest_eq_apart a.0 b.0 apart_digests))
        (ap not (digest_eq_apart b.0 a.0 (λ e. apart_digests (sym e)))))))
