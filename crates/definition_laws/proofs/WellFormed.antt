-- WellFormed: the entries of an honest log are the session's, and each frame that was got is its player's own.
use Rattle.std.proofs.Common.{Bool, List, [], arith, false, inl, inr, refl, subst, sym, true, ℕ, ◌*◌, ◌++◌, ◌<◌, ◌∙◌, ◌∷◌, ◌≡◌, ◌≤◌, ◌⊎◌}
use Rattle.std.specs.Prelude.{if◌then◌else◌, not, ◌==◌}
use Rattle.std.proofs.lemmas.Bool.{and_from, and_parts, cases_lt, eq-eqb, eqb-true, false≢true, le-leb, lt-ltb, ltb-true, or_right}
use Rattle.definitions.specs.declared.frames.TurnFrame.{TurnFrame}
use Rattle.definitions.specs.declared.frames.TurnFrame.TheVariants.{Commit, Reveal}
use Rattle.definitions.specs.declared.logs.Entry.{Entry}
use Rattle.definitions.specs.declared.logs.Entry.TheVariants.{Chose, Got, Made}
use Rattle.definitions.specs.World.{Game}
use Rattle.definitions.specs.Logs.{got_in, got_of, player_of, turn_of}
use Rattle.definitions.specs.Answers.{is_far, is_new, is_of_another, place_of}
use Rattle.definitions.specs.Entries.{AreWellFormed, is_well_formed}
use Rattle.definitions.specs.Honest.{IsHonest, allowed, allows, allows_choice, honest_from}
use Rattle.definitions.proofs.Streams.{commit_place-past, reveal_place-past}
use Rattle.definition_laws.specs.Members.{Has}
use Rattle.definition_laws.proofs.ForPeers.{allowed_frame, frame_at_place, honest_empty, honest_push}
use Rattle.definition_laws.proofs.Members.{Has_each, flat_map_Has}

pub not_true : (b : Bool) → not b ≡ true → b ≡ false
not_true true h = absurd (false≢true h)
not_true false h = refl

-- a frame whose place is one of the session's is of a turn of the session
pub place_turn : (game : Game) (f : TurnFrame) → place_of game f < 2 * game.turns → turn_of f < game.turns
unfolding place_of
place_turn game (Commit p t d) h = go (cases_lt t game.turns)
  where
    go : (t < game.turns) ⊎ (game.turns ≤ t) → t < game.turns
    go (inl a) = a
    go (inr b) = let e = commit_place-past game t b in absurd (omega arith)
place_turn game (Reveal p t m n) h = go (cases_lt t game.turns)
  where
    go : (t < game.turns) ⊎ (game.turns ≤ t) → t < game.turns
    go (inl a) = a
    go (inr b) = let e = reveal_place-past game t b in absurd (omega arith)

-- a frame that is not far has one of the session's places
pub near_place : (game : Game) (me q : ℕ) (h : List Entry) (f : TurnFrame) → is_far game me h q f ≡ false → place_of game f < 2 * game.turns
unfolding is_far
near_place game me q h f e = go (cases_lt (place_of game f) (2 * game.turns))
  where
    go : (place_of game f < 2 * game.turns) ⊎ (2 * game.turns ≤ place_of game f) → place_of game f < 2 * game.turns
    go (inl a) = a
    go (inr b) = absurd (false≢true (sym e ∙ or_right _ _ (le-leb _ _ b)))

pub new_turn : (game : Game) (me q : ℕ) (h : List Entry) (f : TurnFrame) → is_new game me h q f ≡ true → turn_of f < game.turns
new_turn game me q h f e = place_turn game f (near_place game me q h f (not_true (is_far game me h q f) (and_parts _ _ e).0))

-- an entry that is allowed after an honest log may stand in a log of the session
allowed_well : (game : Game) (me : ℕ) (g : List Entry) (e : Entry) → 1 ≤ game.ahead → IsHonest game me g → allowed game me g e ≡ true → is_well_formed game me e ≡ true
unfolding allows allows_choice
allowed_well game me g (Chose t m n) d i a =
    let tests = and_parts _ _ (and_parts _ _ a).1 in
    (and_parts _ _ (and_parts _ _ (and_parts _ _ tests.0).0).0).1
allowed_well game me g (Made f) d i a =
    let at = frame_at_place game me _ g f d i (allowed_frame game me g f d i a) in
    and_from _ _ (lt-ltb _ _ at.2) (eq-eqb _ _ at.1)
allowed_well game me g (Got q f) d i a =
    let tests = and_parts (is_of_another game me q f) (is_new game me g q f) (and_parts _ _ a).1 in
    and_from _ _ (lt-ltb _ _ (new_turn game me q g f tests.1)) tests.0

well_from : (game : Game) (me : ℕ) (g es : List Entry) → 1 ≤ game.ahead → IsHonest game me g → honest_from game me g es ≡ true → AreWellFormed game me es
unfolding honest_from
well_from game me g [] d i h = tt
well_from game me g (e ∷ es) d i h =
    let both = and_parts _ _ h in
    (allowed_well game me g e d i both.0, well_from game me (g ++ e ∷ []) es d (honest_push game me g e i both.0) both.1)

-- the entries of an honest log are the session's
pub honest_well_formed : (game : Game) (me : ℕ) (h : List Entry) → 1 ≤ game.ahead → IsHonest game me h → AreWellFormed game me h
honest_well_formed game me h d i = well_from game me [] h d (honest_empty game me) i

-- a frame that was got of a player stands in an entry that got it from the player
pub got_entry : (q : ℕ) (h : List Entry) (f : TurnFrame) → Has (got_of q h) f → Has h (Got q f)
unfolding got_of
got_entry q h f m = go (flat_map_Has (got_in q) h f m).0 (flat_map_Has (got_in q) h f m).1 (flat_map_Has (got_in q) h f m).2
  where
    go : (e : Entry) → Has h e → Has (got_in q e) f → Has h (Got q f)
    go (Chose t m n) there k = absurd k
    go (Made g) there k = absurd k
    go (Got p g) there k = at (p == q) refl k
      where
        at : (b : Bool) → (p == q) ≡ b → Has (if b then g ∷ [] else []) f → Has h (Got q f)
        at false e k = absurd k
        at true e (inl same) =
            let player = eqb-true p q e in
            let entry : Got p g ≡ Got q f = cc in
            subst (λ (x : Entry). Has h x) entry there
        at true e (inr never) = absurd never

-- what a well-formed log got of a player is another's, of the player itself, and of a turn of the session
pub well_got : (game : Game) (me q : ℕ) (h : List Entry) (f : TurnFrame) → AreWellFormed game me h → Has h (Got q f) →
    (turn_of f < game.turns) × (is_of_another game me q f ≡ true) × (player_of f ≡ q)
well_got game me q h f all m =
    let tests = and_parts _ _ (Has_each _ h (Got q f) all m) in
    (ltb-true _ _ tests.0, tests.1, eqb-true _ _ (and_parts _ _ tests.1).1)
