-- Advancing ends: after it no made frame is allowed.
use Rattle.std.proofs.Common.{Bool, List, None, Some, [], ap, arith, false, refl, subst, suc, true, zero, ℕ, ◌*◌, ◌++◌, ◌+◌, ◌∙◌, ◌∷◌, ◌≡◌, ◌≤◌}
use Rattle.std.specs.Prelude.{Option, if◌then◌else◌}
use Rattle.std.proofs.lemmas.Bool.{and_from}
use Rattle.definitions.specs.Advance.{advance, advance_by, frame_at, if_allowed, next_made, with_made}
use Rattle.definitions.specs.declared.logs.Entry.TheVariants.{Made}
use Rattle.definitions.specs.Honest.{IsHonest, allowed, made_count}
use Rattle.definitions.specs.declared.frames.TurnFrame.{TurnFrame}
use Rattle.definitions.specs.Places.{slot_at}
use Rattle.definitions.specs.World.{Game}
use Rattle.definitions.specs.declared.logs.Entry.{Entry}
use Rattle.definitions.proofs.Streams.{slot_at-past}
use Rattle.definition_laws.proofs.Chosen.{made_count_push}
use Rattle.definition_laws.proofs.Permits.{honest_from_push}

-- where all places are made, no frame is next
pub next_made_past : (game : Game) (me : ℕ) (h : List Entry) → 1 ≤ game.ahead → 2 * game.turns ≤ made_count h → next_made game me h ≡ None
unfolding next_made
next_made_past game me h d le = ap (λ s. if_allowed game me h (frame_at game me h s)) (slot_at-past game (made_count h) d le)

-- a log that allows no made frame stays as it is
pub advance_by_still : (game : Game) (me n : ℕ) (h : List Entry) → next_made game me h ≡ None → advance_by game me n h ≡ h
unfolding advance_by
advance_by_still game me zero h e = refl
advance_by_still game me (suc n) h e = ap (λ (o : Option TurnFrame). advance_by game me n (with_made h o)) e ∙ advance_by_still game me n h e

pub advance_by_ends : (game : Game) (me n : ℕ) (h : List Entry) → 1 ≤ game.ahead → 2 * game.turns ≤ made_count h + n → next_made game me (advance_by game me n h) ≡ None
unfolding advance_by
advance_by_ends game me zero h d le = next_made_past game me h d (omega arith)
advance_by_ends game me (suc n) h d le = go (next_made game me h) refl (λ g k. advance_by_ends game me n g d k)
  where
    go : (o : Option TurnFrame) → next_made game me h ≡ o →
        ((g : List Entry) → 2 * game.turns ≤ made_count g + n → next_made game me (advance_by game me n g) ≡ None) →
        next_made game me (advance_by game me n (with_made h (next_made game me h))) ≡ None
    go None e ih =
        let still = ap (λ (o : Option TurnFrame). advance_by game me n (with_made h o)) e ∙ advance_by_still game me n h e in
        ap (next_made game me) still ∙ e
    go (Some f) e ih =
        let more = made_count_push h f in
        ap (λ (o : Option TurnFrame). next_made game me (advance_by game me n (with_made h o))) e ∙ ih (h ++ Made f ∷ []) (omega arith)

-- after advancing no made frame is next
pub advance_ends : (game : Game) (me : ℕ) (h : List Entry) → 1 ≤ game.ahead → next_made game me (advance game me h) ≡ None
unfolding advance
advance_ends game me h d = advance_by_ends game me (2 * game.turns) h d (omega arith)

-- the frame that is made next is allowed
pub next_made_allowed : (game : Game) (me : ℕ) (h : List Entry) (f : TurnFrame) → next_made game me h ≡ Some f → allowed game me h (Made f) ≡ true
unfolding next_made
next_made_allowed game me h f e = go (frame_at game me h (slot_at game (made_count h))) e
  where
    go : (o : Option TurnFrame) → if_allowed game me h o ≡ Some f → allowed game me h (Made f) ≡ true
    go None e = cc
    go (Some k) e = at (allowed game me h (Made k)) refl e
      where
        at : (b : Bool) → allowed game me h (Made k) ≡ b → (if b then Some k else None) ≡ Some f → allowed game me h (Made f) ≡ true
        at true is e = let same : k ≡ f = cc in subst (λ (l : TurnFrame). allowed game me h (Made l) ≡ true) same is
        at false is e = cc

-- advancing keeps a log honest
advance_by_honest : (game : Game) (me n : ℕ) (h : List Entry) → IsHonest game me h → IsHonest game me (advance_by game me n h)
unfolding advance_by
advance_by_honest game me zero h i = i
advance_by_honest game me (suc n) h i = advance_by_honest game me n (with_made h (next_made game me h)) (go (next_made game me h) refl)
  where
    go : (o : Option TurnFrame) → next_made game me h ≡ o → IsHonest game me (with_made h o)
    go None e = i
    go (Some f) e = honest_from_push game me h (Made f) ∙ and_from _ _ i (next_made_allowed game me h f e)

pub advance_honest : (game : Game) (me : ℕ) (h : List Entry) → IsHonest game me h → IsHonest game me (advance game me h)
unfolding advance
advance_honest game me h i = advance_by_honest game me (2 * game.turns) h i
