-- Reveals: how many turns' reveals stand below a place.
use Rattle.std.proofs.Common.{◌≡◌, ℕ, ◌∷◌, length, zero, suc, ◌+◌, ◌-◌, ◌<◌, ◌≤◌, Bool, true, false, sym, ap, ◌∙◌, arith, Option, Some, None, inl, inr, ◌⊎◌}
use Rattle.std.specs.Prelude.{cond, filter, min, nat_lt}
use Rattle.std.specs.List.{range_with_len}
use Rattle.std.proofs.lemmas.Bool.{cases_lt, lt-ltb, le-ltb}
use Rattle.definitions.specs.declared.frames.What.{What}
use Rattle.definitions.specs.declared.frames.What.TheVariants.{Commit, Reveal}
use Rattle.definitions.specs.declared.places.Slot.{Slot}
use Rattle.definitions.specs.World.{Game}
use Rattle.definitions.specs.Places.{commit_place, reveal_place, slot_at}
use Rattle.definitions.proofs.Streams.{commit_place-below, frame_of_place, reveal_place-below, reveal_place-fits, slot_at-commit, slot_at-reveal}
use Rattle.definitions.proofs.Slots.{slot_at_commit_is, slot_at_reveal_is}
use Rattle.grid_world.specs.Sessions.{IsSession}
use Rattle.grid_world.specs.Places.{reveals_below}

-- players commit at least one turn ahead
pub ahead_least : (game : Game) → IsSession game → 1 ≤ game.ahead
ahead_least game is = is.ahead.0

-- how many of a range pass, where those below a number do and the others don't
count_up_to : (p : ℕ → Bool) (r a n : ℕ) → ((t : ℕ) → a ≤ t → t < a + n → t < r → p t ≡ true) → ((t : ℕ) → a ≤ t → t < a + n → r ≤ t → p t ≡ false) → length (filter p (range_with_len a n)) ≡ min (r - a) n
count_up_to p r a zero passes fails = omega arith
count_up_to p r a (suc n) passes fails =
    let rest = count_up_to p r (a + 1) n (λ t le lt below. passes t (omega arith) (omega arith) below) (λ t le lt past. fails t (omega arith) (omega arith) past) in
    elim (cases_lt a r) [
      | inl below ↦ ap (λ (b : Bool). length (cond b (a ∷ filter p (range_with_len (a + 1) n)) (filter p (range_with_len (a + 1) n)))) (passes a (omega arith) (omega arith) below) ∙ omega arith
      | inr past ↦ ap (λ (b : Bool). length (cond b (a ∷ filter p (range_with_len (a + 1) n)) (filter p (range_with_len (a + 1) n)))) (fails a (omega arith) (omega arith) past) ∙ omega arith
    ]

-- the reveals below a place are those of the first turns
pub reveals_are : (game : Game) (place r : ℕ) → r ≤ game.turns → ((t : ℕ) → t < game.turns → t < r → reveal_place game t < place) → ((t : ℕ) → t < game.turns → r ≤ t → place ≤ reveal_place game t) → reveals_below game place ≡ r
unfolding reveals_below
reveals_are game place r few below past =
    count_up_to (λ t. nat_lt (reveal_place game t) place) r 0 game.turns (λ t le lt k. lt-ltb _ _ (below t (omega arith) k)) (λ t le lt k. le-ltb _ _ (past t (omega arith) k)) ∙ omega arith

no_slot : (s : Slot) → None ≡ Some s → ⊥
no_slot s h = cc

-- a place past all reveals, that of a commitment, and that of a reveal
pub reveals_past : (game : Game) (place : ℕ) → 1 ≤ game.ahead → slot_at game place ≡ None → reveals_below game place ≡ game.turns
reveals_past game place d none = reveals_are game place game.turns (omega arith) (λ t lt k. go t lt (cases_lt (reveal_place game t) place)) (λ t lt k. absurd (omega arith))
  where
    go : (t : ℕ) → t < game.turns → (reveal_place game t < place) ⊎ (place ≤ reveal_place game t) → reveal_place game t < place
    go t lt (inl h) = h
    go t lt (inr h) =
        let fits = reveal_place-fits game t lt in
        absurd (elim (frame_of_place game place d (omega arith)) [
          | inl w ↦ let some = slot_at-commit game w.0 d w.1 in no_slot _ (sym (ap (slot_at game) w.2 ∙ none) ∙ some)
          | inr w ↦ let some = slot_at-reveal game w.0 d w.1 in no_slot _ (sym (ap (slot_at game) w.2 ∙ none) ∙ some)
        ])

pub reveals_at_commit : (game : Game) (t place : ℕ) → 1 ≤ game.ahead → t < game.turns → commit_place game t ≡ place → reveals_below game place ≡ place - t
reveals_at_commit game t place d lt e =
    let at = commit_place-below game t lt in
    reveals_are game place (place - t) (omega arith) (λ u k below. let r = reveal_place-below game u k in omega arith) (λ u k past. let r = reveal_place-below game u k in omega arith)

pub reveals_at_reveal : (game : Game) (t place : ℕ) → t < game.turns → reveal_place game t ≡ place → reveals_below game place ≡ t
reveals_at_reveal game t place lt e =
    let at = reveal_place-below game t lt in
    reveals_are game place t (omega arith) (λ u k below. let r = reveal_place-below game u k in omega arith) (λ u k past. let r = reveal_place-below game u k in omega arith)

-- the same, by the slot of the place
pub reveals_by_none : (game : Game) (place n : ℕ) (o : Option Slot) → IsSession game → o ≡ slot_at game place → o ≡ None → n ≡ game.turns → n ≡ reveals_below game place
reveals_by_none game place n o is at e turns = turns ∙ sym (reveals_past game place (ahead_least game is) (sym at ∙ e))

abbrev slot_with : What → ℕ → Slot
slot_with w t = record { what = w; turn = t }

-- the turn of a commitment's slot, and that of a reveal's
pub at_commit : (game : Game) (place : ℕ) (o : Option Slot) (s : Slot) → o ≡ slot_at game place → o ≡ Some s → s.what ≡ Commit → (s.turn < game.turns) × (commit_place game s.turn ≡ place)
at_commit game place o s at e what = slot_at_commit_is game place s.turn (sym at ∙ e ∙ ap (λ (w : What). Some (slot_with w s.turn)) what)

pub at_reveal : (game : Game) (place : ℕ) (o : Option Slot) (s : Slot) → o ≡ slot_at game place → o ≡ Some s → s.what ≡ Reveal → (s.turn < game.turns) × (reveal_place game s.turn ≡ place)
at_reveal game place o s at e what = slot_at_reveal_is game place s.turn (sym at ∙ e ∙ ap (λ (w : What). Some (slot_with w s.turn)) what)

pub commit_turn_below : (game : Game) (place : ℕ) (o : Option Slot) (s : Slot) → o ≡ slot_at game place → o ≡ Some s → s.what ≡ Commit → s.turn ≤ place
commit_turn_below game place o s at e what =
    let w = at_commit game place o s at e what in
    let below = commit_place-below game s.turn w.0 in
    let is = w.1 in
    omega arith

pub reveals_by_commit : (game : Game) (place : ℕ) (o : Option Slot) (s : Slot) → IsSession game → o ≡ slot_at game place → o ≡ Some s → s.what ≡ Commit → place - s.turn ≡ reveals_below game place
reveals_by_commit game place o s is at e what = let w = at_commit game place o s at e what in sym (reveals_at_commit game s.turn place (ahead_least game is) w.0 w.1)

pub reveals_by_reveal : (game : Game) (place : ℕ) (o : Option Slot) (s : Slot) → o ≡ slot_at game place → o ≡ Some s → s.what ≡ Reveal → s.turn ≡ reveals_below game place
reveals_by_reveal game place o s at e what = let w = at_reveal game place o s at e what in sym (reveals_at_reveal game s.turn place w.0 w.1)
