-- Chosen: the openings that a log chose, turn after turn.
use Rattle.std.proofs.Common.{List, None, Some, [], ap, arith, length, length-append, refl, subst, suc, true, zero, ℕ, ◌++◌, ◌+◌, ◌∙◌, ◌∷◌, ◌≡◌}
use Rattle.std.specs.Prelude.{find, flat_map, map, slice_get, take, ◌==◌}
use Rattle.std.proofs.lemmas.Bool.{and_parts, cond-false, cond-true, eq-eqb, ne_eqb}
use Rattle.definitions.specs.Logs.{chosen, chosen_in, made, made_in}
use Rattle.definitions.specs.declared.openings.Opening.{Opening}
use Rattle.definitions.specs.Moves.{are_legal_from, is_legal, next_track, track_from}
use Rattle.definitions.specs.Honest.{made_count}
use Rattle.definitions.specs.declared.logs.Entry.TheVariants.{Made}
use Rattle.definitions.specs.declared.frames.TurnFrame.{TurnFrame}
use Rattle.definitions.specs.declared.world.Track.{Track}
use Rattle.definitions.specs.World.{Game}
use Rattle.definitions.specs.declared.logs.Entry.{Entry}
use Rattle.definition_laws.proofs.Listing.{flat_map_append}

-- the openings were chosen by this player, for turn after turn from this one on
unfoldable pub AreChosen : ℕ → ℕ → List Opening → Type 0
AreChosen me i [] = Unit {0}
AreChosen me i (o ∷ os) = (o.player ≡ me) × (o.turn ≡ i) × AreChosen me (i + 1) os

pub AreChosen_push : (me i : ℕ) (os : List Opening) (o : Opening) → AreChosen me i os → o.player ≡ me → o.turn ≡ i + length os → AreChosen me i (os ++ o ∷ [])
unfolding AreChosen
AreChosen_push me i [] o h p t = (p, omega arith, tt)
AreChosen_push me i (x ∷ os) o h p t = (h.0, h.1, AreChosen_push me (i + 1) os o h.2 p (omega arith))

-- what was chosen for a turn stands at its number
pub find_chosen : (me i t : ℕ) (os : List Opening) → AreChosen me i os → find (λ o. o.turn == i + t) os ≡ slice_get os t
unfolding AreChosen
find_chosen me i t [] h = refl
find_chosen me i zero (x ∷ os) h = cond-true (x.turn == i + 0) _ _ (eq-eqb _ _ (omega arith))
find_chosen me i (suc t) (x ∷ os) h =
    cond-false (x.turn == i + suc t) _ _ (ne_eqb _ _ (λ e. let a = h.1 in omega arith)) ∙
    ap (λ n. find (λ o. o.turn == n) os) (let e : i + suc t ≡ i + 1 + t = omega arith in e) ∙ find_chosen me (i + 1) t os h.2

-- who chose an opening, and for which turn
pub chosen_at : (me i t : ℕ) (os : List Opening) (o : Opening) → AreChosen me i os → slice_get os t ≡ Some o → (o.player ≡ me) × (o.turn ≡ i + t)
unfolding AreChosen
chosen_at me i t [] o h e = absurd (let f : None ≡ Some o = e in cc)
chosen_at me i zero (x ∷ os) o h e =
    let same : x ≡ o = cc in
    subst (λ (y : Opening). (y.player ≡ me) × (y.turn ≡ i + 0)) same (h.0, h.1 ∙ omega arith)
chosen_at me i (suc t) (x ∷ os) o h e = let r = chosen_at me (i + 1) t os o h.2 e in (r.0, r.1 ∙ omega arith)

pub chosen_push : (me : ℕ) (g : List Entry) (e : Entry) → chosen me (g ++ e ∷ []) ≡ chosen me g ++ (chosen_in me e ++ [])
unfolding chosen
chosen_push me g e = flat_map_append (chosen_in me) g (e ∷ [])

pub made_push : (g : List Entry) (e : Entry) → made (g ++ e ∷ []) ≡ made g ++ (made_in e ++ [])
unfolding made
made_push g e = flat_map_append made_in g (e ∷ [])

-- the move at a place of a legal list is legal after those before it
pub legal_at : (game : Game) (q : ℕ) (os : List Opening) (track : Track) (t : ℕ) (o : Opening) → are_legal_from game q track (map (λ o. o.mv) os) ≡ true →
    slice_get os t ≡ Some o → is_legal game q (track_from game track (map (λ o. o.mv) (take t os))) o.mv ≡ true
legal_at game q [] track t o h e = absurd (let f : None ≡ Some o = e in cc)
legal_at game q (x ∷ os) track zero o h e =
    let same : x ≡ o = cc in subst (λ (y : Opening). is_legal game q track y.mv ≡ true) same (and_parts _ _ h).0
legal_at game q (x ∷ os) track (suc t) o h e = legal_at game q os (next_track game track x.mv) t o (and_parts _ _ h).1 e

pub made_count_push : (h : List Entry) (f : TurnFrame) → made_count (h ++ Made f ∷ []) ≡ made_count h + 1
unfolding made
made_count_push h f = ap length (flat_map_append made_in h (Made f ∷ [])) ∙ length-append (flat_map made_in h) (f ∷ [])
