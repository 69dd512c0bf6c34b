-- Room: the received frames of a clean honest log have places that all differ, so there are few of them.
use Rattle.std.proofs.Common.{◌≡◌, ℕ, zero, suc, ◌+◌, ◌-◌, ◌*◌, ◌/◌, ◌≤◌, ◌<◌, List, [], ◌∷◌, ◌++◌, length, length-append, append_assoc, refl, true, false, sym, ◌∙◌, ap, subst, arith, inl, inr, ◌⊎◌}
use Rattle.std.specs.Prelude.{◌==◌, not, flat_map, nat_lt, if◌then◌else◌}
use Rattle.std.specs.List.{list_any, IsDistinct}
use Rattle.std.proofs.lemmas.Bool.{and_parts, cases_lt, cond-true, cond-false, lt-ltb, le-ltb, ltb-true, eq-eqb, eqb-true, ne_eqb, or_cases, false≢true}
use Rattle.std.proofs.lemmas.Nat.{div-mul-add}
use Rattle.std.proofs.Math.Nat.{mul-le-mul_right}
use Rattle.std.proofs.lemmas.Map.Steps.{length-le_from_distinct_below}
use Rattle.plain_lemmas.proofs.Each.{each_push}
use Rattle.definitions.specs.declared.frames.TurnFrame.{TurnFrame}
use Rattle.definitions.specs.declared.frames.TurnFrame.TheVariants.{Commit, Reveal}
use Rattle.definitions.specs.declared.logs.Entry.{Entry}
use Rattle.definitions.specs.declared.logs.Entry.TheVariants.{Chose, Made, Got}
use Rattle.definitions.specs.declared.findings.Finding.{Finding}
use Rattle.definitions.specs.declared.limits.TheConstants.{MOST_ENTRIES, MOST_TURNS, MOST_TURNS_OF_ALL}
use Rattle.definitions.specs.World.{Game, players_of}
use Rattle.definitions.specs.Logs.{made, chosen, turn_of}
use Rattle.definitions.specs.Findings.{findings, is_clean}
use Rattle.definitions.specs.Answers.{is_of_another, place_of}
use Rattle.definitions.specs.Entries.{AreWellFormed}
use Rattle.definitions.specs.Honest.{IsHonest, allowed, allows, honest_from, made_count}
use Rattle.definitions.proofs.Streams.{commit_place-fits, reveal_place-fits}
use Rattle.definition_laws.specs.Members.{Has}
use Rattle.definition_laws.proofs.ForPeers.{honest_push, honest_last, honest_empty, own_counts}
use Rattle.definition_laws.proofs.Listing.{append_nil, empty_nil, flat_map_append}
use Rattle.definition_laws.proofs.Members.{flat_map_Has}
use Rattle.definition_laws.proofs.Standing.{made_count_most}
use Rattle.definition_laws.proofs.Taken.{taken_is_found}
use Rattle.definition_laws.proofs.WellFormed.{honest_well_formed, well_got}
use Rattle.definition_laws.specs.Fits.{room_of}

-- the number of a player among the others
rank : ℕ → ℕ → ℕ
rank me q = if nat_lt q me then q else q - 1

rank_below : (me q n : ℕ) → q < n → me < n → (q ≡ me → ⊥) → rank me q < n - 1
unfolding rank
rank_below me q n lt my other = go (cases_lt q me)
  where
    go : (q < me) ⊎ (me ≤ q) → (if nat_lt q me then q else q - 1) < n - 1
    go (inl a) = let e : (if nat_lt q me then q else q - 1) ≡ q = cond-true _ _ _ (lt-ltb q me a) in omega arith
    go (inr b) = let e : (if nat_lt q me then q else q - 1) ≡ q - 1 = cond-false _ _ _ (le-ltb q me b) in omega arith

rank_same : (me q r : ℕ) → (q ≡ me → ⊥) → (r ≡ me → ⊥) → rank me q ≡ rank me r → q ≡ r
unfolding rank
rank_same me q r a b e = go (cases_lt q me) (cases_lt r me)
  where
    go : (q < me) ⊎ (me ≤ q) → (r < me) ⊎ (me ≤ r) → q ≡ r
    go (inl x) (inl y) = sym (cond-true _ _ _ (lt-ltb q me x)) ∙ e ∙ cond-true _ _ _ (lt-ltb r me y)
    go (inl x) (inr y) = let same : q ≡ r - 1 = sym (cond-true _ _ _ (lt-ltb q me x)) ∙ e ∙ cond-false _ _ _ (le-ltb r me y) in omega arith
    go (inr x) (inl y) = let same : q - 1 ≡ r = sym (cond-false _ _ _ (le-ltb q me x)) ∙ e ∙ cond-true _ _ _ (lt-ltb r me y) in omega arith
    go (inr x) (inr y) = let same : q - 1 ≡ r - 1 = sym (cond-false _ _ _ (le-ltb q me x)) ∙ e ∙ cond-false _ _ _ (le-ltb r me y) in omega arith

-- a number for each place of each other player
code_of : Game → ℕ → ℕ → TurnFrame → ℕ
code_of game me q f = rank me q * (2 * game.turns) + place_of game f

abbrev code_in : Game → ℕ → Entry → List ℕ
code_in game me (Chose t m n) = []
code_in game me (Made f) = []
code_in game me (Got q f) = code_of game me q f ∷ []

-- those of all received frames
codes : Game → ℕ → List Entry → List ℕ
codes game me h = flat_map (code_in game me) h

place_fits : (game : Game) (f : TurnFrame) → 1 ≤ game.ahead → turn_of f < game.turns → place_of game f < 2 * game.turns
unfolding place_of
place_fits game (Commit p t d) a h = commit_place-fits game t a h
place_fits game (Reveal p t m n) a h = reveal_place-fits game t h

row_below : (r n w p : ℕ) → r < n → p < w → r * w + p < n * w
row_below r n w p h k =
    let rows : (r + 1) * w ≤ n * w = mul-le-mul_right w (omega arith) in
    let more : (r + 1) * w ≡ r * w + w = omega arith in
    omega arith

row_same : (r s w p o : ℕ) → p < w → o < w → r * w + p ≡ s * w + o → (r ≡ s) × (p ≡ o)
row_same r s w p o h k e =
    let same : r ≡ s = sym (div-mul-add r w p h) ∙ ap (λ n. n / w) e ∙ div-mul-add s w o k in
    let rows : r * w ≡ s * w = ap (λ n. n * w) same in
    (same, omega arith)

-- a frame of another player is one of a player of the session, and not the owner
pub other_player : (game : Game) (me q : ℕ) (f : TurnFrame) → is_of_another game me q f ≡ true → (q < players_of game) × (q ≡ me → ⊥)
other_player game me q f h =
    let tests = and_parts _ _ (and_parts _ _ h).0 in
    (ltb-true _ _ tests.0, λ e. false≢true (ap not (sym (eq-eqb q me e)) ∙ tests.1))

code_below : (game : Game) (me : ℕ) (h : List Entry) (c : ℕ) → 1 ≤ game.ahead → me < players_of game → AreWellFormed game me h → Has (codes game me h) c → c < (players_of game - 1) * (2 * game.turns)
unfolding codes code_of
code_below game me h c ahead my all m = go (flat_map_Has (code_in game me) h c m).0 (flat_map_Has (code_in game me) h c m).1 (flat_map_Has (code_in game me) h c m).2
  where
    go : (e : Entry) → Has h e → Has (code_in game me e) c → c < (players_of game - 1) * (2 * game.turns)
    go (Chose t m n) there k = absurd k
    go (Made f) there k = absurd k
    go (Got q f) there (inr never) = absurd never
    go (Got q f) there (inl is) =
        let well = well_got game me q h f all there in
        let other = other_player game me q f well.1 in
        subst (λ n. n < (players_of game - 1) * (2 * game.turns)) is
        (row_below _ _ (2 * game.turns) (place_of game f) (rank_below me q (players_of game) other.0 my other.1) (place_fits game f ahead well.0))

-- a frame whose number the log has already is of a player and a place of which the log has a frame
code_taken : (game : Game) (me q : ℕ) (h : List Entry) (f : TurnFrame) → 1 ≤ game.ahead → AreWellFormed game me h → is_of_another game me q f ≡ true → turn_of f < game.turns →
    Has (codes game me h) (code_of game me q f) → (g : TurnFrame) × Has h (Got q g) × (place_of game g ≡ place_of game f)
unfolding codes code_of
code_taken game me q h f ahead all another lt m = go at.0 at.1 at.2
  where
    at : (e : Entry) × Has h e × Has (code_in game me e) (code_of game me q f)
    at = flat_map_Has (code_in game me) h (code_of game me q f) m

    go : (e : Entry) → Has h e → Has (code_in game me e) (code_of game me q f) → (g : TurnFrame) × Has h (Got q g) × (place_of game g ≡ place_of game f)
    go (Chose t m n) there k = absurd k
    go (Made g) there k = absurd k
    go (Got p g) there (inr never) = absurd never
    go (Got p g) there (inl is) =
        let well = well_got game me p h g all there in
        let same = row_same (rank me p) (rank me q) (2 * game.turns) (place_of game g) (place_of game f) (place_fits game g ahead well.0) (place_fits game f ahead lt) is in
        let player = rank_same me p q (other_player game me p g well.1).1 (other_player game me q f another).1 same.0 in
        (g, subst (λ (n : ℕ). Has h (Got n g)) player there, same.1)

distinct_push : (xs : List ℕ) (y : ℕ) → IsDistinct (λ a b. a == b) xs → (Has xs y → ⊥) → IsDistinct (λ a b. a == b) (xs ++ y ∷ [])
unfolding IsDistinct
distinct_push [] y d none = (tt, tt)
distinct_push (x ∷ xs) y d none =
    (each_push (λ z. (x == z) ≡ false) xs y d.0 (ne_eqb x y (λ e. none (inl e))), distinct_push xs y d.1 (λ m. none (inr m)))

pub clean_none : (game : Game) (h : List Entry) → is_clean game h ≡ true → findings game (h ∷ []) ≡ []
unfolding is_clean
clean_none game h e = empty_nil (findings game (h ∷ [])) e

codes_push : (game : Game) (me : ℕ) (h : List Entry) (e : Entry) → codes game me (h ++ e ∷ []) ≡ codes game me h ++ (code_in game me e ++ [])
unfolding codes
codes_push game me h e = flat_map_append (code_in game me) h (e ∷ [])

-- one entry more, which makes no finding
codes_step : (game : Game) (me : ℕ) (h : List Entry) (e : Entry) → 1 ≤ game.ahead → IsHonest game me h → allowed game me h e ≡ true → is_clean game (h ++ e ∷ []) ≡ true →
    IsDistinct (λ a b. a == b) (codes game me h) → IsDistinct (λ a b. a == b) (codes game me (h ++ e ∷ []))
unfolding allows
codes_step game me h (Chose t m n) ahead i a clean d = subst (λ xs. IsDistinct (λ a b. a == b) xs) (sym (codes_push game me h (Chose t m n) ∙ append_nil (codes game me h))) d
codes_step game me h (Made f) ahead i a clean d = subst (λ xs. IsDistinct (λ a b. a == b) xs) (sym (codes_push game me h (Made f) ∙ append_nil (codes game me h))) d
codes_step game me h (Got q f) ahead i a clean d =
    let tests = and_parts _ _ (and_parts _ _ a).1 in
    let all = honest_well_formed game me h ahead i in
    let more = honest_well_formed game me (h ++ Got q f ∷ []) ahead (honest_push game me h (Got q f) i a) in
    let lt = (well_got game me q (h ++ Got q f ∷ []) f more (Has_last h (Got q f))).0 in
    subst (λ xs. IsDistinct (λ a b. a == b) xs) (sym (codes_push game me h (Got q f)))
    (distinct_push (codes game me h) (code_of game me q f) d (λ m.
    let taken = code_taken game me q h f ahead all tests.0 lt m in
    let found = taken_is_found game me q h f taken.0 ahead all tests.0 tests.1 taken.1 taken.2 in
    subst (λ (fs : List Finding). Has fs found.0) (clean_none game (h ++ Got q f ∷ []) clean) found.1))
  where
    Has_last : (xs : List Entry) (x : Entry) → Has (xs ++ x ∷ []) x
    Has_last [] x = inl refl
    Has_last (y ∷ xs) x = inr (Has_last xs x)

codes_from : (game : Game) (me : ℕ) (g es : List Entry) → 1 ≤ game.ahead → IsHonest game me g → honest_from game me g es ≡ true → is_clean game (g ++ es) ≡ true →
    IsDistinct (λ a b. a == b) (codes game me g) → IsDistinct (λ a b. a == b) (codes game me (g ++ es))
unfolding honest_from
codes_from game me g [] ahead i h clean d = subst (λ (xs : List Entry). IsDistinct (λ a b. a == b) (codes game me xs)) (sym (append_nil g)) d
codes_from game me g (e ∷ es) ahead i h clean d =
    let both = and_parts _ _ h in
    let joined : (g ++ e ∷ []) ++ es ≡ g ++ e ∷ es = append_assoc g (e ∷ []) es in
    let later = codes_from game me (g ++ e ∷ []) es ahead (honest_push game me g e i both.0) both.1 (ap (is_clean game) joined ∙ clean)
    (codes_step game me g e ahead i both.0 (next es both.1 clean) d) in
    subst (λ (xs : List Entry). IsDistinct (λ a b. a == b) (codes game me xs)) joined later
  where
    next : (es : List Entry) → honest_from game me (g ++ e ∷ []) es ≡ true → is_clean game (g ++ e ∷ es) ≡ true → is_clean game (g ++ e ∷ []) ≡ true
    next [] k c = c
    next (x ∷ xs) k c = (and_parts _ _ (and_parts _ _ k).0).0

any_Has : (xs : List ℕ) (x : ℕ) → list_any (λ y. x == y) xs ≡ true → Has xs x
any_Has [] x h = absurd (false≢true h)
any_Has (y ∷ xs) x h =
    elim (or_cases (x == y) (list_any (λ z. x == z) xs) h) [
      | inl a ↦ inl (sym (eqb-true x y a))
      | inr b ↦ inr (any_Has xs x b)
    ]

codes_none : (game : Game) (me : ℕ) → IsDistinct (λ a b. a == b) (codes game me [])
unfolding codes IsDistinct
codes_none game me = tt

-- a clean honest log got no more frames than the other players have places
codes_few : (game : Game) (me : ℕ) (h : List Entry) → 1 ≤ game.ahead → me < players_of game → IsHonest game me h → is_clean game h ≡ true →
    length (codes game me h) ≤ (players_of game - 1) * (2 * game.turns)
codes_few game me h ahead my i clean =
    length-le_from_distinct_below (codes game me h) ((players_of game - 1) * (2 * game.turns)) (codes_from game me [] h ahead (honest_empty game me) i clean (codes_none game me))
    (λ c m. code_below game me h c ahead my (honest_well_formed game me h ahead i) (any_Has (codes game me h) c m))

-- each entry is a choice, a made frame or a received one
length_parts : (game : Game) (me : ℕ) (h : List Entry) → length h ≡ length (chosen me h) + made_count h + length (codes game me h)
unfolding chosen made codes
length_parts game me [] = refl
length_parts game me (Chose t m n ∷ h) = let ih = length_parts game me h in omega arith
length_parts game me (Made f ∷ h) = let ih = length_parts game me h in omega arith
length_parts game me (Got q f ∷ h) = let ih = length_parts game me h in omega arith

pub clean_logs_fit : (game : Game) (me : ℕ) (h : List Entry) → 1 ≤ game.ahead → me < players_of game → IsHonest game me h → is_clean game h ≡ true → length h ≤ room_of game
clean_logs_fit game me h ahead my i clean =
    let parts = length_parts game me h in
    let few = (own_counts game me h ahead i).few in
    let places = made_count_most game me h ahead i in
    let got = codes_few game me h ahead my i clean in
    let turned : (players_of game - 1) * (2 * game.turns) ≡ 2 * game.turns * (players_of game - 1) = omega arith in
    omega arith

-- a list is empty or has a last item
last_of : {X : Type 0} (xs : List X) → (xs ≡ []) ⊎ ((front : List X) × (x : X) × (xs ≡ front ++ x ∷ []))
last_of [] = inl refl
last_of {X} (x ∷ xs) = go (last_of xs)
  where
    go : (xs ≡ []) ⊎ ((front : List X) × (y : X) × (xs ≡ front ++ y ∷ [])) → (x ∷ xs ≡ []) ⊎ ((front : List X) × (y : X) × (x ∷ xs ≡ front ++ y ∷ []))
    go (inl e) = inr ([], x, ap (λ (ys : List X). x ∷ ys) e)
    go (inr r) = inr (x ∷ r.0, r.1, ap (λ (ys : List X). x ∷ ys) r.2)

pub logs_fit : (game : Game) (me : ℕ) (h : List Entry) → 1 ≤ game.ahead → me < players_of game → IsHonest game me h → length h ≤ room_of game + 1
logs_fit game me h ahead my i = go (last_of h)
  where
    go : (h ≡ []) ⊎ ((g : List Entry) × (e : Entry) × (h ≡ g ++ e ∷ [])) → length h ≤ room_of game + 1
    go (inl e) = let none = ap length e in omega arith
    go (inr r) =
        let last = honest_last game me r.0 r.1 (subst (λ (xs : List Entry). IsHonest game me xs) r.2 i) in
        let few = clean_logs_fit game me r.0 ahead my last.0 (and_parts _ _ last.1).0 in
        let one = ap length r.2 in
        let more = length-append r.0 (r.1 ∷ []) in
        omega arith

-- so many turns of one player, and of all players together
few_turns : (n t : ℕ) → t ≤ MOST_TURNS → n * t ≤ MOST_TURNS_OF_ALL → 3 * t + 2 * t * (n - 1) ≤ MOST_ENTRIES
few_turns zero t turns all = omega arith
few_turns (suc n) t turns all =
    let others : suc n - 1 ≡ n = omega arith in
    let frames : 2 * t * (suc n - 1) ≡ 2 * t * n = ap (λ (k : ℕ). 2 * t * k) others in
    let own : suc n * t ≡ t + n * t = omega arith in
    omega arith

pub room_small : (game : Game) → game.turns ≤ MOST_TURNS → players_of game * game.turns ≤ MOST_TURNS_OF_ALL → room_of game ≤ MOST_ENTRIES
room_small game turns all = few_turns (players_of game) game.turns turns all
