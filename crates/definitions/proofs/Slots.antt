-- Slots: which frame stands at a place, and which place a frame has, for any number of turns that players commit ahead.
use Rattle.std.proofs.Common.{None, Some, ap, arith, sym, true, ℕ, ◌+◌, ◌-◌, ◌<◌, ◌∙◌, ◌≡◌, ◌≤◌}
use Rattle.std.specs.Prelude.{Option, find, min, ◌==◌}
use Rattle.std.proofs.lemmas.Bool.{eqb-true}
use Rattle.std.specs.List.{range_with_len}
use Rattle.definitions.specs.declared.world.Move.{Move}
use Rattle.definitions.specs.declared.openings.Digest.{Digest}
use Rattle.definitions.specs.declared.openings.Nonce.{Nonce}
use Rattle.definitions.specs.declared.frames.TurnFrame.{TurnFrame}
use Rattle.definitions.specs.declared.frames.TurnFrame.TheVariants as F
use Rattle.definitions.specs.declared.frames.What.TheVariants.{Commit, Reveal}
use Rattle.definitions.specs.declared.places.Slot.{Slot}
use Rattle.definitions.specs.World.{Game}
use Rattle.definitions.specs.Answers.{place_of}
use Rattle.definitions.specs.Places.{commit_place, reveal_place, slot_at, slot_or}
use Rattle.definitions.proofs.Streams.{commit_place-below, find-range, reveal_place-below, slot_at-commit, slot_at-reveal}

-- the slot of a commitment's place, and of a reveal's
pub slot_of_commit : (game : Game) (t place : ℕ) → 1 ≤ game.ahead → t < game.turns → place ≡ t + (t + 1 - game.ahead) → slot_at game place ≡ Some (record { what = Commit; turn = t })
slot_of_commit game t place d lt e = ap (slot_at game) (e ∙ sym (commit_place-below game t lt)) ∙ slot_at-commit game t d lt

pub slot_of_reveal : (game : Game) (t place : ℕ) → 1 ≤ game.ahead → t < game.turns → place ≡ t + min (t + game.ahead) game.turns → slot_at game place ≡ Some (record { what = Reveal; turn = t })
slot_of_reveal game t place d lt e = ap (slot_at game) (e ∙ sym (reveal_place-below game t lt)) ∙ slot_at-reveal game t d lt

-- a frame's place, by that of its commitment or reveal
pub commit_place_of : (game : Game) (f : TurnFrame) (p t n : ℕ) (d : Digest) → f ≡ F.Commit p t d → n ≡ commit_place game t → n ≡ place_of game f
unfolding place_of
commit_place_of game f p t n d is e = e ∙ sym (ap (place_of game) is)

pub reveal_place_of : (game : Game) (f : TurnFrame) (p t n : ℕ) (m : Move) (o : Nonce) → f ≡ F.Reveal p t m o → n ≡ reveal_place game t → n ≡ place_of game f
unfolding place_of
reveal_place_of game f p t n m o is e = e ∙ sym (ap (place_of game) is)

-- what a place's slot says of it
pub slot_at_commit_is : (game : Game) (n t : ℕ) → slot_at game n ≡ Some (record { what = Commit; turn = t }) → (t < game.turns) × (commit_place game t ≡ n)
unfolding slot_at
slot_at_commit_is game n t h =
    go (find (λ t. commit_place game t == n) (range_with_len 0 game.turns)) (find (λ t. reveal_place game t == n) (range_with_len 0 game.turns))
    (find-range (λ t. commit_place game t == n) 0 game.turns) h
  where
    go : (a b : Option ℕ) → ((u : ℕ) → a ≡ Some u → (0 ≤ u) × (u < 0 + game.turns) × ((commit_place game u == n) ≡ true)) →
        slot_or a b ≡ Some (record { what = Commit; turn = t }) → (t < game.turns) × (commit_place game t ≡ n)
    go (Some u) b f h =
        let slots : (let s : Slot = record { what = Commit; turn = u } in s) ≡ record { what = Commit; turn = t } = cc in
        let same = ap (λ (s : Slot). s.turn) slots in
        let k = f t (ap (λ v. Some v) same) in (omega arith, eqb-true _ _ k.2)
    go None (Some u) f h =
        let slots : (let s : Slot = record { what = Reveal; turn = u } in s) ≡ record { what = Commit; turn = t } = cc in
        let whats = ap (λ (s : Slot). s.what) slots in absurd (cc)
    go None None f h = absurd (cc)

pub slot_at_reveal_is : (game : Game) (n t : ℕ) → slot_at game n ≡ Some (record { what = Reveal; turn = t }) → (t < game.turns) × (reveal_place game t ≡ n)
unfolding slot_at
slot_at_reveal_is game n t h =
    go (find (λ t. commit_place game t == n) (range_with_len 0 game.turns)) (find (λ t. reveal_place game t == n) (range_with_len 0 game.turns))
    (find-range (λ t. reveal_place game t == n) 0 game.turns) h
  where
    go : (a b : Option ℕ) → ((u : ℕ) → b ≡ Some u → (0 ≤ u) × (u < 0 + game.turns) × ((reveal_place game u == n) ≡ true)) →
        slot_or a b ≡ Some (record { what = Reveal; turn = t }) → (t < game.turns) × (reveal_place game t ≡ n)
    go (Some u) b f h =
        let slots : (let s : Slot = record { what = Commit; turn = u } in s) ≡ record { what = Reveal; turn = t } = cc in
        let whats = ap (λ (s : Slot). s.what) slots in absurd (cc)
    go None (Some u) f h =
        let slots : (let s : Slot = record { what = Reveal; turn = u } in s) ≡ record { what = Reveal; turn = t } = cc in
        let same = ap (λ (s : Slot). s.turn) slots in
        let k = f t (ap (λ v. Some v) same) in (omega arith, eqb-true _ _ k.2)
    go None None f h = absurd (cc)
