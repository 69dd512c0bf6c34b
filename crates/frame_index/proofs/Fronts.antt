-- Fronts: the places that are read of a turn, in their order.
use Rattle.std.proofs.Common.{ap, arith, inl, inr, refl, sym, ℕ, ◌+◌, ◌<◌, ◌≤◌, ◌∙◌, ◌≡◌, Option, Some, None}
use Rattle.std.specs.Prelude.{min}
use Rattle.std.proofs.lemmas.Bool.{cases_lt}
use Rattle.definitions.specs.declared.frames.What.TheVariants.{Commit}
use Rattle.definitions.specs.declared.places.Slot.{Slot}
use Rattle.definitions.specs.World.{Game}
use Rattle.definitions.specs.Places.{reveal_place, slot_at}
use Rattle.definitions.proofs.Slots.{slot_of_commit, slot_of_reveal}
use Rattle.definitions.proofs.Streams.{commit_place-below, reveal_place-below, slot_at-past}
use Rattle.definition_laws.proofs.Order.{IsOrderly}
use Rattle.grid_world.specs.Sessions.{IsSession}
use Rattle.grid_world.proofs.Reveals.{at_commit}
use Rattle.frame_index.specs.Heads.{front_of, past_commitment, past_slot, past_what, turn_at, turn_in}

-- what is read at a place, by the slot that stands there
module _ (game : Game) (place : ℕ) (o : Option Slot) (at : o ≡ slot_at game place) where
  pub past_none : o ≡ None → place ≡ past_commitment game place
  past_none none = ap (λ (x : Option Slot). past_slot x place) (sym none ∙ at)

  pub past_some : (slot : Slot) → o ≡ Some slot → past_what slot.what place ≡ past_commitment game place
  past_some slot some = ap (λ (x : Option Slot). past_slot x place) (sym some ∙ at)

  pub turn_is : (slot : Slot) → o ≡ Some slot → turn_at game place ≡ slot.turn
  turn_is slot some = ap turn_in (sym at ∙ some)

-- before the first reveal there are commitments alone
pub past_first : (game : Game) (place : ℕ) → IsSession game → place < min game.ahead game.turns → past_commitment game place ≡ place + 1
past_first game place is lt = ap (λ (x : Option Slot). past_slot x place) (slot_of_commit game place place is.ahead.0 (omega arith) (omega arith))

module _ (game : Game) (t : ℕ) (is : IsSession game) (lt : t < game.turns) where
  pub reveal_front : (place : ℕ) → place ≡ reveal_place game t → place ≡ front_of game t
  reveal_front place at = let below = reveal_place-below game t lt in omega arith

  pub turn_of_front : turn_at game (front_of game t) ≡ t
  turn_of_front = ap turn_in (slot_of_reveal game t (front_of game t) is.ahead.0 lt (omega arith))

  -- after a turn's reveal comes a commitment, if one is left, and then the next turn's reveal
  pub past_front : past_commitment game (front_of game t + 1) ≡ front_of game (t + 1)
  past_front = elim (cases_lt (t + game.ahead) game.turns) [
    | inl left ↦
        let next : front_of game t + 1 + 1 ≡ front_of game (t + 1) = omega arith in
        ap (λ (x : Option Slot). past_slot x (front_of game t + 1)) (slot_of_commit game (t + game.ahead) (front_of game t + 1) is.ahead.0 left (omega arith)) ∙ next
    | inr all ↦
        let next : front_of game t + 1 ≡ front_of game (t + 1) = omega arith in
        elim (cases_lt (t + 1) game.turns) [
          | inl later ↦ ap (λ (x : Option Slot). past_slot x (front_of game t + 1)) (slot_of_reveal game (t + 1) (front_of game t + 1) is.ahead.0 later (omega arith)) ∙ next
          | inr end ↦ ap (λ (x : Option Slot). past_slot x (front_of game t + 1)) (slot_at-past game (front_of game t + 1) is.ahead.0 (omega arith)) ∙ next
        ]
  ]

  -- that commitment is of the first turn which is not committed
  pub next_turn : (slot : Slot) (o : Option Slot) → o ≡ slot_at game (front_of game t + 1) → o ≡ Some slot → slot.what ≡ Commit →
      (slot.turn ≡ min (t + game.ahead) game.turns) × (t + game.ahead < game.turns)
  next_turn slot o at some what =
      let ahead = is.ahead.0 in
      let w = at_commit game (front_of game t + 1) o slot at some what in
      let within = w.0 in
      let there = w.1 in
      let below = commit_place-below game slot.turn w.0 in
      (omega arith, omega arith)

-- the numbers of commitments and of reveals before these places
pub first_orderly : (game : Game) (t : ℕ) → t ≤ min game.ahead game.turns → IsOrderly game t 0
first_orderly game t le = record { within = omega arith; turns = omega arith; least = inl refl }

pub front_orderly : (game : Game) (t : ℕ) → t < game.turns → IsOrderly game (min (t + game.ahead) game.turns) t
front_orderly game t lt = record { within = omega arith; turns = omega arith; least = inr (omega arith) }

pub past_orderly : (game : Game) (t : ℕ) → t < game.turns → IsOrderly game (min (t + game.ahead) game.turns) (t + 1)
past_orderly game t lt = record { within = omega arith; turns = omega arith; least = inr (omega arith) }
