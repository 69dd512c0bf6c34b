-- Answered: which answer a frame gets, by the slot of its place.
use Rattle.std.proofs.Common.{◌≡◌, ℕ, ◌*◌, ◌<◌, arith, List, [], ◌∷◌, ◌++◌, length, set, refl, Bool, true, false, sym, ◌∙◌, ap, inl, inr, Option, Some, None}
use Rattle.std.specs.Prelude.{◌==◌, ◌||◌, option_to_list}
use Rattle.std.specs.List.{list_any}
use Rattle.std.proofs.lemmas.Bool.{cases_Bool, cases_lt, cond-false, cond-true, false_from_ne_true, false≢true}
use Rattle.definitions.specs.declared.frames.TurnFrame.{TurnFrame}
use Rattle.definitions.specs.declared.frames.TurnFrame.TheVariants.{Commit, Reveal}
use Rattle.definitions.specs.World.{Game}
use Rattle.definitions.specs.Lists.{EachIs}
use Rattle.definitions.specs.Logs.{frame_eq}
use Rattle.definitions.specs.Held.{known_to, places_in}
use Rattle.definitions.specs.Answers as A
use Rattle.definitions.proofs.Streams.{commit_place-past, reveal_place-past}
use Rattle.definition_laws.proofs.Alike.{frame_eq_true}
use Rattle.definition_laws.proofs.Listing.{append_nil}
use Rattle.peer_window.specs.declared.received.Received.{Received}
use Rattle.definitions.specs.declared.findings.Finding.{Finding}
use Rattle.peer_window.specs.declared.received.Offer.{Offer}
use Rattle.peer_window.specs.declared.received.Offer.TheVariants.{Same, Far}
use Rattle.grid_world.specs.declared.streams.Stream.{Stream}
use Rattle.peer_window.specs.Clashes.{first_clash}
use Rattle.peer_window.specs.Slots.{AreSlots, frames_in, in_order, slot_of, slot}
use Rattle.peer_window.specs.Windows.{IsHeld, IsWindow, Seen, answer, frames_after, is_far, is_same, new_answer, seen_of, with_frame}
use Rattle.peer_window.proofs.Ordered.{AllBefore, each_in_order, in_order_set, slot_each}

-- a frame whose place is one of the stream's has a slot
pub placed_slot : (game : Game) (f : TurnFrame) → A.place_of game f < 2 * game.turns → slot_of f < 2 * game.turns
unfolding A.place_of
placed_slot game (Commit p t d) lt = elim (cases_lt t game.turns) [
  | inl below ↦ omega arith
  | inr past ↦ let at = commit_place-past game t past in absurd (omega arith)
]
placed_slot game (Reveal p t m n) lt = elim (cases_lt t game.turns) [
  | inl below ↦ omega arith
  | inr past ↦ let at = reveal_place-past game t past in absurd (omega arith)
]

pub frames_alone : (ss : List (Option Received)) (rival : Option Received) → rival ≡ None → in_order ss ++ option_to_list rival ≡ in_order ss
frames_alone ss rival e = ap (λ (o : Option Received). in_order ss ++ option_to_list o) e ∙ append_nil (in_order ss)

-- what a window without a rival says of its slots
pub window_held : (game : Game) (q : ℕ) (ss : List (Option Received)) (rival : Option Received) (closed : Bool) (at : Stream) → rival ≡ None → AreSlots q ss at.commits at.resolved → IsWindow game (seen_of q ss rival closed at) → IsHeld game q ss at
window_held game q ss rival closed at e slots w = record {
  player = w.player;
  places = w.places;
  slots = slots;
  known = ap (λ (rs : List Received). known_to game q (frames_in rs) (2 * game.turns)) (sym (frames_alone ss rival e)) ∙ sym w.known;
  leads = w.track;
}

pub window_clean : (game : Game) (q : ℕ) (ss : List (Option Received)) (rival : Option Received) (closed : Bool) (at : Stream) → rival ≡ None → closed ≡ false → IsWindow game (seen_of q ss rival closed at) →
    first_clash game q (in_order ss) ≡ None
window_clean game q ss rival closed at e f w = ap (first_clash game q) (sym (frames_alone ss rival e)) ∙ w.clean f

-- the tests in turn
pub answer_far : (game : Game) (w : Seen) (r : Received) → is_far game w r.frame ≡ true → Far ≡ answer game w r
answer_far game w r e = sym (cond-true (is_far game w r.frame) _ _ e)

pub answer_same : (game : Game) (w : Seen) (r : Received) → is_far game w r.frame ≡ false → is_same w r.frame ≡ true → Same ≡ answer game w r
answer_same game w r e f = sym (cond-false (is_far game w r.frame) _ _ e ∙ cond-true (is_same w r.frame) _ _ f)

pub answer_new : (game : Game) (w : Seen) (r : Received) (a : Offer) → is_far game w r.frame ≡ false → is_same w r.frame ≡ false → a ≡ new_answer (first_clash game w.player (with_frame w r)) (A.place_of game r.frame == places_in w.known) → a ≡ answer game w r
answer_new game w r a e f g = g ∙ sym (cond-false (is_far game w r.frame) _ _ e ∙ cond-false (is_same w r.frame) _ _ f)

any_none : (p : Received → Bool) (rs : List Received) → EachIs (λ r. p r ≡ false) rs → list_any p rs ≡ false
any_none p [] h = refl
any_none p (r ∷ rs) h = ap (λ (b : Bool). b || list_any p rs) h.0 ∙ any_none p rs h.1

none_any : (p : Received → Bool) (rs : List Received) → list_any p rs ≡ false → EachIs (λ r. p r ≡ false) rs
none_any p [] h = tt
none_any p (r ∷ rs) h = go (p r) refl h (none_any p rs)
  where
    go : (b : Bool) → p r ≡ b → (b || list_any p rs) ≡ false → (list_any p rs ≡ false → EachIs (λ r. p r ≡ false) rs) → (p r ≡ false) × EachIs (λ r. p r ≡ false) rs
    go true e k ih = absurd (false≢true (sym k))
    go false e k ih = (e, ih k)

-- an equal frame stands in its place's slot
pub same_there : (ss : List (Option Received)) (p : ℕ) (g : Received) (f : TurnFrame) → slot ss p ≡ Some g → frame_eq g.frame f ≡ true → list_any (λ r. frame_eq r.frame f) (in_order ss) ≡ true
same_there ss p g f e h = elim (cases_Bool (list_any (λ r. frame_eq r.frame f) (in_order ss))) [
  | inl holds ↦ holds
  | inr fails ↦ absurd (false≢true (sym (slot_each (λ r. frame_eq r.frame f ≡ false) ss p g (none_any (λ r. frame_eq r.frame f) (in_order ss) fails) e) ∙ h))
]

-- and in no other
pub same_not_there : (q c u p : ℕ) (ss : List (Option Received)) (f : TurnFrame) → AreSlots q ss c u → p ≡ slot_of f → ((g : Received) → slot ss p ≡ Some g → frame_eq g.frame f ≡ false) → list_any (λ r. frame_eq r.frame f) (in_order ss) ≡ false
same_not_there q c u p ss f w at h =
    any_none (λ r. frame_eq r.frame f) (in_order ss) (each_in_order (λ r. frame_eq r.frame f ≡ false) ss (λ i r e. false_from_ne_true (frame_eq r.frame f) (λ same.
    let is = frame_eq_true r.frame f same in
    let here : i ≡ p = sym (w.own i r e).0 ∙ ap slot_of is ∙ sym at in
    false≢true (sym (h r (ap (slot ss) (sym here) ∙ e)) ∙ same))))

-- a frame that joins the others
pub frames_joined : (ss : List (Option Received)) (rival : Option Received) (p : ℕ) (r : Received) → rival ≡ None → p < length ss → slot ss p ≡ None → AllBefore r.entry (in_order ss) →
    in_order (set ss p (Some r)) ++ [] ≡ (in_order ss ++ option_to_list rival) ++ r ∷ []
frames_joined ss rival p r alone lt none later =
    append_nil (in_order (set ss p (Some r))) ∙ in_order_set ss p r lt none later ∙ ap (λ (rs : List Received). rs ++ r ∷ []) (sym (frames_alone ss rival alone))

pub after_new : (w : Seen) (r : Received) (clash : Option Finding) (next : Bool) (a : Offer) → a ≡ new_answer clash next → with_frame w r ≡ frames_after w r a
after_new w r clash next a e = go clash next ∙ ap (frames_after w r) (sym e)
  where
    go : (o : Option Finding) (b : Bool) → with_frame w r ≡ frames_after w r (new_answer o b)
    go (Some x) b = refl
    go None true = refl
    go None false = refl
