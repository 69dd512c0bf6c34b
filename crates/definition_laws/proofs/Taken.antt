-- Taken: a new frame of a place that the log has already is caught.
use Rattle.std.proofs.Common.{Bool, List, Some, [], ap, arith, false, inl, inr, refl, sym, true, ℕ, ◌++◌, ◌<◌, ◌∙◌, ◌∷◌, ◌≡◌, ◌≤◌, ◌⊎◌, length}
use Rattle.std.specs.Prelude.{not, ◌&&◌, ◌||◌, ◌==◌}
use Rattle.std.specs.List.{list_any}
use Rattle.std.proofs.lemmas.Bool.{ltb-true, and_from, and_parts, cases_Bool, cond-false, eq-eqb, eqb-true, false≢true, false_from_ne_true}
use Rattle.std.proofs.lemmas.Option.{slice_get_within}
use Rattle.definitions.specs.declared.openings.Digest.{Digest}
use Rattle.definitions.specs.declared.frames.TurnFrame.{TurnFrame}
use Rattle.definitions.specs.declared.frames.TurnFrame.TheVariants.{Commit, Reveal}
use Rattle.definitions.specs.declared.logs.Entry.{Entry}
use Rattle.definitions.specs.declared.logs.Entry.TheVariants.{Got}
use Rattle.definitions.specs.declared.answers.GotAnswer.TheVariants.{Caught}
use Rattle.definitions.specs.declared.findings.Kind.{Kind}
use Rattle.definitions.specs.declared.findings.Kind.TheVariants.{TwoCommits, BadOpening, Collision}
use Rattle.definitions.specs.declared.findings.Finding.{Finding}
use Rattle.definitions.specs.World.{Game}
use Rattle.definitions.specs.Logs.{digest_eq, entry_eq, frame_eq, player_of, turn_of}
use Rattle.definitions.specs.Held.{digest_of, next_place}
use Rattle.definitions.specs.Findings.{Sighting, are_bad_opening, are_collision, are_two_commits, finding_at, findings, is_clean, is_reveal, same_digest, show_kind, sightings}
use Rattle.definitions.specs.Answers.{got_answer, is_far, is_new, is_of_another, is_same, new_answer, place_of}
use Rattle.definitions.specs.Entries.{AreWellFormed}
use Rattle.definitions.proofs.Streams.{commit_place-apart, commit_place-once, reveal_place-once}
use Rattle.definition_laws.specs.Members.{Has}
use Rattle.definition_laws.specs.Spots.{IsSighting, SpotBefore}
use Rattle.definition_laws.proofs.Alike.{digest_eq_same, digest_eq_true, frame_eq_same, frame_eq_true}
use Rattle.definition_laws.proofs.Least.{Has_findings, found_some, pair_none, seen_strict}
use Rattle.definition_laws.proofs.Listed.{finding_at_kind}
use Rattle.definition_laws.proofs.Listing.{slice_get_front, slice_get_last}
use Rattle.definition_laws.proofs.Members.{Has_slice_get}
use Rattle.definition_laws.proofs.Sighted.{SeenBefore, sighting_is_seen, sightings_sorted}
use Rattle.definition_laws.proofs.WellFormed.{new_turn, not_true, well_got}

-- two sightings that show a kind are found
pub shown_is_found : (game : Game) (logs : List (List Entry)) (q t : ℕ) (k : Kind) (a b : Sighting) → IsSighting logs q t a → IsSighting logs q t b → SpotBefore a.spot b.spot →
    show_kind game q t logs k a b ≡ true → (f : Finding) × (finding_at game logs q t k ≡ Some f)
shown_is_found game logs q t k a b sa sb before shown =
    found_some game logs q t k (λ none. false≢true
    (sym (pair_none SeenBefore (show_kind game q t logs k) (sightings q t 0 logs) a b seen_strict (sightings_sorted q t 0 logs) none
    (sighting_is_seen q t logs a sa) (sighting_is_seen q t logs b sb) before) ∙ shown))

digest_apart : (d e : Digest) → digest_eq d e ≡ false → digest_eq e d ≡ false
digest_apart d e h = false_from_ne_true (digest_eq e d) (λ k. false≢true (sym h ∙ ap (digest_eq d) (digest_eq_true e d k) ∙ digest_eq_same d))

frames_apart : (f g : TurnFrame) → frame_eq f g ≡ false → frame_eq g f ≡ false
frames_apart f g h = false_from_ne_true (frame_eq g f) (λ k. false≢true (sym h ∙ ap (frame_eq f) (frame_eq_true g f k) ∙ frame_eq_same f))

differs_last : (a b c : Bool) → a ≡ true → b ≡ true → (a && b && c) ≡ false → c ≡ false
differs_last a b c x y h = grind (arith, x, y)

-- two different frames of one player and turn, both commitments or both reveals, show a kind
two_frames : (game : Game) (q t : ℕ) (logs : List (List Entry)) (a b : Sighting) (f g : TurnFrame) → a.frame ≡ g → b.frame ≡ f → player_of f ≡ player_of g → turn_of f ≡ turn_of g →
    is_reveal f ≡ is_reveal g → frame_eq f g ≡ false → (k : Kind) × (show_kind game q t logs k a b ≡ true)
unfolding show_kind digest_of
two_frames game q t logs a b (Commit p u d) (Commit p' u' d') x y player turn same apart =
    let differ = digest_apart d d' (differs_last (p == p') (u == u') (digest_eq d d') (eq-eqb p p' player) (eq-eqb u u' turn) apart) in
    let shown : are_two_commits game (Commit p' u' d') (Commit p u d) ≡ true = ap not differ in
    (TwoCommits, rw (x, y) shown)
two_frames game q t logs a b (Commit p u d) (Reveal p' u' m n) x y player turn same apart = absurd (false≢true same)
two_frames game q t logs a b (Reveal p u m n) (Commit p' u' d) x y player turn same apart = absurd (false≢true (sym same))
two_frames game q t logs a b (Reveal p u m n) (Reveal p' u' m' n') x y player turn same apart = go (cases_Bool (same_digest game (Reveal p' u' m' n') (Reveal p u m n)))
  where
    go : (same_digest game (Reveal p' u' m' n') (Reveal p u m n) ≡ true) ⊎ (same_digest game (Reveal p' u' m' n') (Reveal p u m n) ≡ false) → (k : Kind) × (show_kind game q t logs k a b ≡ true)
    go (inl one) =
        let shown : are_collision game (Reveal p' u' m' n') (Reveal p u m n) ≡ true =
        and_from _ _ (ap not (frames_apart (Reveal p u m n) (Reveal p' u' m' n') apart)) one in
        (Collision, rw (x, y) shown)
    go (inr two) =
        let shown : are_bad_opening game (Reveal p' u' m' n') (Reveal p u m n) ≡ true = ap not two in
        (BadOpening, rw (x, y) shown)

-- frames of one place are of one turn, and both commitments or both reveals
one_place : (game : Game) (f g : TurnFrame) → 1 ≤ game.ahead → turn_of f < game.turns → turn_of g < game.turns → place_of game g ≡ place_of game f →
    (turn_of f ≡ turn_of g) × (is_reveal f ≡ is_reveal g)
unfolding place_of
one_place game (Commit p t d) (Commit q u e) ahead lt lu h = (sym (commit_place-once game u t lu lt h), refl)
one_place game (Commit p t d) (Reveal q u m n) ahead lt lu h = absurd (commit_place-apart game t u ahead lt lu (sym h))
one_place game (Reveal p t m n) (Commit q u d) ahead lt lu h = absurd (commit_place-apart game u t ahead lu lt h)
one_place game (Reveal p t m n) (Reveal q u k o) ahead lt lu h = (sym (reveal_place-once game u t lu lt h), refl)

list_any_none_Has : {X : Type 0} (p : X → Bool) (xs : List X) (x : X) → list_any p xs ≡ false → Has xs x → p x ≡ false
list_any_none_Has p [] x h m = absurd m
list_any_none_Has {X} p (y ∷ ys) x h m = go (p y) refl h m (list_any_none_Has p ys x)
  where
    go : (b : Bool) → p y ≡ b → (b || list_any p ys) ≡ false → (y ≡ x) ⊎ Has ys x → (list_any p ys ≡ false → Has ys x → p x ≡ false) → p x ≡ false
    go true e h m ih = absurd (false≢true (sym h))
    go false e h (inl a) ih = ap p (sym a) ∙ e
    go false e h (inr b) ih = ih h b

second_false : (a b : Bool) → a ≡ true → (a && b) ≡ false → b ≡ false
second_false a b x y = grind (arith, x)

first_Has : {X : Type 0} (xs : List X) (x : X) → Has xs x → (y : X) × (ys : List X) × (xs ≡ y ∷ ys)
first_Has [] x m = absurd m
first_Has (y ∷ ys) x m = (y, ys, refl)

-- with a new frame of a place of which the log has a frame, there is a finding of its player and turn
pub taken_is_found : (game : Game) (me q : ℕ) (h : List Entry) (f g : TurnFrame) → 1 ≤ game.ahead → AreWellFormed game me h → is_of_another game me q f ≡ true →
    is_new game me h q f ≡ true → Has h (Got q g) → place_of game g ≡ place_of game f →
    (x : Finding) × Has (findings game ((h ++ Got q f ∷ []) ∷ [])) x × (x.player ≡ q) × (x.turn ≡ turn_of f)
unfolding is_same
taken_is_found game me q h f g ahead all another new has place =
    let at = Has_slice_get h (Got q g) has in
    let logs : List (List Entry) = (h ++ Got q f ∷ []) ∷ [] in
    let a : Sighting = record { spot = record { log = 0; entry = at.0 }; frame = g } in
    let b : Sighting = record { spot = record { log = 0; entry = length h }; frame = f } in
    let theirs = well_got game me q h g all has in
    let lt = new_turn game me q h f new in
    let one = one_place game f g ahead lt theirs.0 place in
    let tests = and_parts _ _ another in
    let player : player_of f ≡ player_of g = eqb-true _ _ tests.1 ∙ sym theirs.2 in
    let unlike : (entry_eq (Got q f) (Got q g)) ≡ false = list_any_none_Has (entry_eq (Got q f)) h (Got q g) (not_true _ (and_parts _ _ new).1) has in
    let apart : frame_eq f g ≡ false = second_false (q == q) (frame_eq f g) (eq-eqb q q refl) unlike in
    let shown = two_frames game q (turn_of f) logs a b f g refl refl player one.0 one.1 apart in
    let found = shown_is_found game logs q (turn_of f) shown.0 a b
    (record { log = h ++ Got q f ∷ []; there = refl; got = slice_get_front h (Got q f ∷ []) at.0 (Got q g) at.1; turn = sym one.0 })
    (record { log = h ++ Got q f ∷ []; there = refl; got = slice_get_last h (Got q f); turn = refl })
    (inr (refl, slice_get_within h at.0 (Got q g) at.1)) shown.1 in
    let of = finding_at_kind game logs q (turn_of f) shown.0 found.0 found.1 in
    (found.0, Has_findings game logs q (turn_of f) shown.0 found.0 (ltb-true _ _ (and_parts _ _ tests.0).0) lt found.1, of.0, of.1)

-- a new frame of a place that the log has already is always caught
pub taken_is_caught : (game : Game) (me q : ℕ) (h : List Entry) (f g : TurnFrame) → 1 ≤ game.ahead → AreWellFormed game me h → is_clean game h ≡ true → is_of_another game me q f ≡ true →
    is_new game me h q f ≡ true → Has h (Got q g) → place_of game g ≡ place_of game f → (x : Finding) × (got_answer game me h q f ≡ Caught x)
unfolding got_answer
taken_is_caught game me q h f g ahead all clean another new has place =
    let found = taken_is_found game me q h f g ahead all another new has place in
    let first = first_Has (findings game ((h ++ Got q f ∷ []) ∷ [])) found.0 found.1 in
    let tests = and_parts (not (is_far game me h q f)) (not (is_same h q f)) new in (
      first.0,
      cond-false (not (is_clean game h)) _ _ (ap not clean) ∙ cond-false (not (is_of_another game me q f)) _ _ (ap not another)
          ∙ cond-false (is_far game me h q f) _ _ (not_true _ tests.0) ∙ cond-false (is_same h q f) _ _ (not_true _ tests.1)
          ∙ ap (λ (fs : List Finding). new_answer game (next_place game me h q) fs f) first.2,
    )
