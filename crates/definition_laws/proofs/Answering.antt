-- Answering: what becomes of a frame that comes, by its place and by what the log has.
use Rattle.std.proofs.Common.{Bool, List, [], ap, arith, false, inl, inr, refl, subst, sym, true, ℕ, ◌*◌, ◌++◌, ◌+◌, ◌<◌, ◌∙◌, ◌∷◌, ◌≡◌, ◌≤◌, ◌⊎◌}
use Rattle.std.specs.Prelude.{if◌then◌else◌, nat_le, nat_lt, not, ◌&&◌, ◌||◌, ◌==◌, ◌↔◌}
use Rattle.std.specs.List.{list_any}
use Rattle.std.proofs.lemmas.Bool.{and_from, and_parts, cases_lt, cond-false, cond-true, eq-eqb, eqb-true, false≢true, le-leb, leb-true, lt-ltb, ltb-true, ne_eqb, or_cases, or_left, or_right}
use Rattle.plain_lemmas.proofs.Options.{some_of}
use Rattle.definitions.specs.declared.frames.TurnFrame.{TurnFrame}
use Rattle.definitions.specs.declared.frames.TurnFrame.TheVariants.{Commit, Reveal}
use Rattle.definitions.specs.declared.logs.Entry.{Entry}
use Rattle.definitions.specs.declared.logs.Entry.TheVariants.{Chose, Got, Made}
use Rattle.definitions.specs.declared.answers.GotAnswer.{GotAnswer}
use Rattle.definitions.specs.declared.answers.GotAnswer.TheVariants.{Taken, Stashed, Same, Far, Foreign, Closed}
use Rattle.definitions.specs.declared.findings.Finding.{Finding}
use Rattle.definitions.specs.World.{Game}
use Rattle.definitions.specs.Logs.{entry_eq, frame_eq, turn_of}
use Rattle.definitions.specs.Held.{held, next_place, resolved}
use Rattle.definitions.specs.Findings.{findings, is_clean}
use Rattle.definitions.specs.Answers.{got_answer, is_far, is_new, is_of_another, is_same, new_answer, place_of}
use Rattle.definitions.specs.Entries.{AreWellFormed}
use Rattle.definitions.specs.Steps.{is_taken_in}
use Rattle.definition_laws.specs.Answering.{Joins}
use Rattle.definition_laws.specs.Members.{Has}
use Rattle.definition_laws.proofs.Alike.{frame_eq_same, frame_eq_true}
use Rattle.definition_laws.proofs.Behind.{held_received, resolved_received}
use Rattle.definition_laws.proofs.Nexts.{held_below, resolved_below}
use Rattle.definition_laws.proofs.Taken.{taken_is_found}
use Rattle.definition_laws.proofs.WellFormed.{new_turn, not_true}

pub far_is_past : (game : Game) (me q : ℕ) (h : List Entry) (f : TurnFrame) →
    (is_far game me h q f ≡ true) ↔ ((next_place game me h q + 8 < place_of game f) ⊎ (2 * game.turns ≤ place_of game f))
unfolding is_far
far_is_past game me q h f = ((λ e. there (or_cases _ _ e)), back)
  where
    there : (nat_lt (next_place game me h q + 8) (place_of game f) ≡ true) ⊎ (nat_le (2 * game.turns) (place_of game f) ≡ true) →
        (next_place game me h q + 8 < place_of game f) ⊎ (2 * game.turns ≤ place_of game f)
    there (inl a) = inl (ltb-true _ _ a)
    there (inr b) = inr (leb-true _ _ b)

    back : (next_place game me h q + 8 < place_of game f) ⊎ (2 * game.turns ≤ place_of game f) →
        (nat_lt (next_place game me h q + 8) (place_of game f) || nat_le (2 * game.turns) (place_of game f)) ≡ true
    back (inl a) = or_left _ _ (lt-ltb _ _ a)
    back (inr b) = or_right _ _ (le-leb _ _ b)

got_same : (q : ℕ) (f : TurnFrame) (e : Entry) → entry_eq (Got q f) e ≡ true → e ≡ Got q f
got_same q f (Chose t m n) h = absurd (false≢true h)
got_same q f (Made g) h = absurd (false≢true h)
got_same q f (Got p g) h =
    let both = and_parts (q == p) (frame_eq f g) h in
    let player = eqb-true q p both.0 in
    let frame = frame_eq_true f g both.1 in
    cc

pub same_is_there : (q : ℕ) (h : List Entry) (f : TurnFrame) → (is_same h q f ≡ true) ↔ Has h (Got q f)
unfolding is_same
same_is_there q h f = (there h, back h)
  where
    there : (es : List Entry) → list_any (entry_eq (Got q f)) es ≡ true → Has es (Got q f)
    there [] e = absurd (false≢true e)
    there (x ∷ es) e = at (or_cases (entry_eq (Got q f) x) (list_any (entry_eq (Got q f)) es) e) (there es)
      where
        at : (entry_eq (Got q f) x ≡ true) ⊎ (list_any (entry_eq (Got q f)) es ≡ true) → (list_any (entry_eq (Got q f)) es ≡ true → Has es (Got q f)) → (x ≡ Got q f) ⊎ Has es (Got q f)
        at (inl a) ih = inl (got_same q f x a)
        at (inr b) ih = inr (ih b)

    itself : entry_eq (Got q f) (Got q f) ≡ true
    itself = and_from _ _ (eq-eqb q q refl) (frame_eq_same f)

    back : (es : List Entry) → Has es (Got q f) → list_any (entry_eq (Got q f)) es ≡ true
    back [] m = absurd m
    back (x ∷ es) (inl e) = or_left _ _ (ap (entry_eq (Got q f)) e ∙ itself)
    back (x ∷ es) (inr m) = or_right (entry_eq (Got q f) x) _ (back es m)

-- another player's frame is not the owner's
another_is_not : (game : Game) (me q : ℕ) (f : TurnFrame) → is_of_another game me q f ≡ true → q ≡ me → ⊥
another_is_not game me q f e same =
    let other = (and_parts _ _ (and_parts _ _ e).0).1 in
    false≢true (sym (ap not (eq-eqb q me same)) ∙ other)

-- a log that is well formed has a frame at each place below the next
pub place_is_had : (game : Game) (me q : ℕ) (h : List Entry) (f : TurnFrame) → 1 ≤ game.ahead → AreWellFormed game me h → (q ≡ me → ⊥) → turn_of f < game.turns →
    place_of game f < next_place game me h q → (g : TurnFrame) × Has h (Got q g) × (place_of game g ≡ place_of game f)
unfolding place_of
place_is_had game me q h (Commit p t d) ahead all other lt below =
    let there = some_of (held game me h q t) ((held_below game me q t h ahead lt).1 below) in
    (Commit q t there.0, held_received game me q t h there.0 all other there.1, refl)
place_is_had game me q h (Reveal p t m n) ahead all other lt below =
    let there = some_of (resolved game me h q t) ((resolved_below game me q t h ahead lt).1 below) in
    let came = resolved_received game me q t h there.0 all other there.1 in
    (Reveal q t there.0 came.1, came.4, refl)

-- a new frame is answered by the findings with it
pub answer_new : (game : Game) (me q : ℕ) (h : List Entry) (f : TurnFrame) → is_clean game h ≡ true → is_of_another game me q f ≡ true → is_new game me h q f ≡ true →
    got_answer game me h q f ≡ new_answer game (next_place game me h q) (findings game ((h ++ Got q f ∷ []) ∷ [])) f
unfolding got_answer
answer_new game me q h f clean another new =
    let tests = and_parts (not (is_far game me h q f)) (not (is_same h q f)) new in
    cond-false (not (is_clean game h)) _ _ (ap not clean) ∙ cond-false (not (is_of_another game me q f)) _ _ (ap not another)
    ∙ cond-false (is_far game me h q f) _ _ (not_true _ tests.0) ∙ cond-false (is_same h q f) _ _ (not_true _ tests.1)

pub taken_or_stashed : (game : Game) (me q : ℕ) (h : List Entry) (f : TurnFrame) → 1 ≤ game.ahead → AreWellFormed game me h →
    is_clean game h ≡ true → is_of_another game me q f ≡ true → is_new game me h q f ≡ true → findings game ((h ++ Got q f ∷ []) ∷ []) ≡ [] →
    ((place_of game f ≡ next_place game me h q) × (got_answer game me h q f ≡ Taken)) ⊎
    ((next_place game me h q < place_of game f) × (got_answer game me h q f ≡ Stashed))
taken_or_stashed game me q h f ahead all clean another new none = go (cases_lt (place_of game f) (next_place game me h q)) (cases_lt (next_place game me h q) (place_of game f))
  where
    answer : got_answer game me h q f ≡ (if place_of game f == next_place game me h q then Taken else Stashed)
    answer = answer_new game me q h f clean another new ∙ ap (λ (fs : List Finding). new_answer game (next_place game me h q) fs f) none

    had : place_of game f < next_place game me h q → ⊥
    had lt =
        let g = place_is_had game me q h f ahead all (another_is_not game me q f another) (new_turn game me q h f new) lt in
        let found = taken_is_found game me q h f g.0 ahead all another new g.1 g.2 in
        subst (λ (fs : List Finding). Has fs found.0) none found.1

    go : (place_of game f < next_place game me h q) ⊎ (next_place game me h q ≤ place_of game f) → (next_place game me h q < place_of game f) ⊎ (place_of game f ≤ next_place game me h q) →
        ((place_of game f ≡ next_place game me h q) × (got_answer game me h q f ≡ Taken)) ⊎ ((next_place game me h q < place_of game f) × (got_answer game me h q f ≡ Stashed))
    go (inl lt) b = absurd (had lt)
    go (inr a) (inl b) = inr (b, answer ∙ cond-false (place_of game f == next_place game me h q) _ _ (ne_eqb _ _ (λ e. omega arith)))
    go (inr a) (inr b) =
        let same : place_of game f ≡ next_place game me h q = omega arith in
        inl (same, answer ∙ cond-true (place_of game f == next_place game me h q) _ _ (eq-eqb _ _ same))

new_joins : (game : Game) (next : ℕ) (fs : List Finding) (f : TurnFrame) → Joins (new_answer game next fs f)
new_joins game next (x ∷ fs) f = tt
new_joins game next [] f = go (place_of game f == next)
  where
    go : (b : Bool) → Joins (if b then Taken else Stashed)
    go true = tt
    go false = tt

pub joins_as_answered : (game : Game) (me q : ℕ) (h : List Entry) (f : TurnFrame) → (is_taken_in game me h q f ≡ true) ↔ Joins (got_answer game me h q f)
unfolding got_answer
joins_as_answered game me q h f =
    go (is_clean game h) (is_of_another game me q f) (is_far game me h q f) (is_same h q f) (new_answer game (next_place game me h q) (findings game ((h ++ Got q f ∷ []) ∷ [])) f)
    (new_joins game (next_place game me h q) (findings game ((h ++ Got q f ∷ []) ∷ [])) f)
  where
    go : (a b c d : Bool) (x : GotAnswer) → Joins x →
        ((a && b && (not c && not d)) ≡ true) ↔ Joins (if not a then Closed else if not b then Foreign else if c then Far else if d then Same else x)
    go false b c d x j = ((λ e. false≢true e), (λ k. absurd k))
    go true false c d x j = ((λ e. false≢true e), (λ k. absurd k))
    go true true true d x j = ((λ e. false≢true e), (λ k. absurd k))
    go true true false true x j = ((λ e. false≢true e), (λ k. absurd k))
    go true true false false x j = ((λ e. j), (λ k. refl))
