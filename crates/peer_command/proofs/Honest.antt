-- Honest: the entries of an honest log are the session's, also where nobody looks ahead.
use Rattle.std.proofs.Common.{◌≡◌, ℕ, ◌<◌, true, sym, subst, List, [], ◌∷◌, ◌++◌}
use Rattle.std.specs.Prelude.{Some, ◌==◌}
use Rattle.std.proofs.lemmas.Bool.{and_from, and_parts, eqb-true, lt-ltb, ltb-true}
use Rattle.plain_lemmas.proofs.Each.{each_append}
use Rattle.definitions.specs.Lists.{EachIs}
use Rattle.definitions.specs.declared.openings.Opening.{Opening}
use Rattle.definitions.specs.declared.frames.TurnFrame.TheVariants.{Commit, Reveal}
use Rattle.definitions.specs.declared.logs.Entry.{Entry}
use Rattle.definitions.specs.declared.logs.Entry.TheVariants.{Chose, Made, Got}
use Rattle.definitions.specs.Answers.{is_new, is_of_another}
use Rattle.definitions.specs.Entries.{AreWellFormed, is_well_formed}
use Rattle.definitions.specs.Honest.{allowed, allows, allows_choice, allows_frame, chosen_for, honest_from, IsHonest}
use Rattle.definitions.specs.Logs.{chosen, chosen_in}
use Rattle.definitions.specs.World.{Game}
use Rattle.definition_laws.proofs.Alike.{commits_to_some, reveals_of_some}
use Rattle.definition_laws.proofs.Chosen.{chosen_push}
use Rattle.definition_laws.proofs.Listing.{each_at, find_stands}
use Rattle.definition_laws.proofs.WellFormed.{new_turn}

-- the turn chosen for is one of the session's
abbrev IsBelow : Game → Opening → Type 0
IsBelow game o = o.turn < game.turns

abbrev AreBelow : Game → ℕ → List Entry → Type 0
AreBelow game me g = EachIs (IsBelow game) (chosen me g)

chosen_below : (game : Game) (me t : ℕ) (g : List Entry) (o : Opening) → AreBelow game me g → chosen_for me g t ≡ Some o → t < game.turns
chosen_below game me t g o below h =
    let at = find_stands (λ (o : Opening). o.turn == t) (chosen me g) o h in
    let here = each_at (IsBelow game) at.0 at.1 o (subst (EachIs (IsBelow game)) at.2 below) in
    subst (λ (n : ℕ). n < game.turns) (eqb-true o.turn t at.3) here

well_next : (game : Game) (me : ℕ) (g : List Entry) (e : Entry) → AreBelow game me g → allowed game me g e ≡ true → is_well_formed game me e ≡ true
unfolding allows allows_choice allows_frame
well_next game me g (Chose t m n) below a =
    let tests = and_parts _ _ (and_parts _ _ a).1 in
    (and_parts _ _ (and_parts _ _ (and_parts _ _ tests.0).0).0).1
well_next game me g (Made (Commit p t k)) below a =
    let parts = and_parts _ _ (and_parts _ _ (and_parts _ _ a).1).0 in
    let o = commits_to_some game (chosen_for me g t) k parts.1 in
    and_from _ _ (lt-ltb t game.turns (chosen_below game me t g o.0 below o.1)) (and_parts _ _ parts.0).0
well_next game me g (Made (Reveal p t m n)) below a =
    let parts = and_parts _ _ (and_parts _ _ (and_parts _ _ a).1).0 in
    let o = reveals_of_some (chosen_for me g t) m n parts.1 in
    and_from _ _ (lt-ltb t game.turns (chosen_below game me t g o.0 below o.1)) (and_parts _ _ parts.0).0
well_next game me g (Got q f) below a =
    let tests = and_parts (is_of_another game me q f) (is_new game me g q f) (and_parts _ _ a).1 in
    and_from _ _ (lt-ltb _ _ (new_turn game me q g f tests.1)) tests.0

below_next : (game : Game) (me : ℕ) (e : Entry) → is_well_formed game me e ≡ true → EachIs (IsBelow game) (chosen_in me e ++ [])
below_next game me (Chose t m n) h = (ltb-true t game.turns h, tt)
below_next game me (Made f) h = tt
below_next game me (Got q f) h = tt

well_from : (game : Game) (me : ℕ) (g es : List Entry) → AreBelow game me g → honest_from game me g es ≡ true → AreWellFormed game me es
unfolding honest_from
well_from game me g [] below h = tt
well_from game me g (e ∷ es) below h =
    let both = and_parts _ _ h in
    let well = well_next game me g e below both.0 in
    let further = each_append (IsBelow game) (chosen me g) (chosen_in me e ++ []) below (below_next game me e well) in
    (well, well_from game me (g ++ e ∷ []) es (subst (EachIs (IsBelow game)) (sym (chosen_push me g e)) further) both.1)

none_below : (game : Game) (me : ℕ) → AreBelow game me []
unfolding chosen
none_below game me = tt

pub honest_well_formed : (game : Game) (me : ℕ) (h : List Entry) → IsHonest game me h → AreWellFormed game me h
honest_well_formed game me h i = well_from game me [] h (none_below game me) i
