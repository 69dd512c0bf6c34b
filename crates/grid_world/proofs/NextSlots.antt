-- NextSlots: what stands next in a stream; in one in order it is what stands at its next place.
use Rattle.std.proofs.Common.{◌≡◌, ℕ, ◌+◌, ◌-◌, ◌*◌, ◌<◌, ◌≤◌, Bool, true, false, refl, subst, sym, ap, ◌∙◌, arith, Option, Some, None, inl, inr, ◌⊎◌}
use Rattle.std.specs.Prelude.{min, nat_lt, if◌then◌else◌}
use Rattle.std.proofs.lemmas.Bool.{cases_lt, lt-ltb, le-ltb, ltb-true, ltb-false}
use Rattle.definitions.specs.declared.frames.What.{What}
use Rattle.definitions.specs.declared.frames.What.TheVariants.{Commit, Reveal}
use Rattle.definitions.specs.declared.places.Slot.{Slot}
use Rattle.definitions.specs.World.{Game}
use Rattle.definitions.specs.Places.{commits_next, slot_at}
use Rattle.definitions.proofs.Streams.{commit_place-below, frame_of_place, reveal_place-below, slot_at-commit, slot_at-past, slot_at-reveal}
use Rattle.grid_world.specs.declared.streams.Stream.{Stream}
use Rattle.grid_world.specs.Sessions.{IsSession}
use Rattle.grid_world.specs.Streams.{IsInOrder, next_of, slot_next}
use Rattle.grid_world.proofs.Reveals.{reveals_at_commit, reveals_at_reveal, reveals_past}

abbrev commitment : ℕ → Option Slot
commitment t = Some (record { what = Commit; turn = t })

abbrev reveal : ℕ → Option Slot
reveal t = Some (record { what = Reveal; turn = t })

-- what stands next, by the numbers of the stream
pub next_commit : (game : Game) (s : Stream) → s.commits < min (s.resolved + game.ahead) game.turns → Some (record { what = Commit; turn = s.commits }) ≡ slot_next game s
next_commit game s lt = rw (lt-ltb _ _ lt) refl

pub next_reveal : (game : Game) (s : Stream) → min (s.resolved + game.ahead) game.turns ≤ s.commits → s.resolved < game.turns → Some (record { what = Reveal; turn = s.resolved }) ≡ slot_next game s
next_reveal game s le lt = rw (le-ltb _ _ le, lt-ltb _ _ lt) refl

pub next_end : (game : Game) (s : Stream) → min (s.resolved + game.ahead) game.turns ≤ s.commits → game.turns ≤ s.resolved → None ≡ slot_next game s
next_end game s le all = rw (le-ltb _ _ le, le-ltb _ _ all) refl

-- in a stream in order it is what stands at the next place
pub slot_in_order : (game : Game) (s : Stream) → IsSession game → IsInOrder game s → slot_next game s ≡ slot_at game (next_of s)
slot_in_order game s is order = elim (cases_lt (next_of s) (2 * game.turns)) [
  | inl lt ↦ elim (frame_of_place game (next_of s) is.ahead.0 lt) [
    | inl w ↦
        let at = commit_place-below game w.0 w.1 in
        let there = w.2 in
        let below = reveals_at_commit game w.0 (next_of s) is.ahead.0 w.1 w.2 in
        let within = w.1 in
        let same : s.commits ≡ w.0 = omega arith in
        sym (next_commit game s (omega arith)) ∙ ap commitment same ∙ sym (slot_at-commit game w.0 is.ahead.0 w.1) ∙ ap (slot_at game) w.2
    | inr w ↦
        let at = reveal_place-below game w.0 w.1 in
        let there = w.2 in
        let below = reveals_at_reveal game w.0 (next_of s) w.1 w.2 in
        let within = w.1 in
        let same : s.resolved ≡ w.0 = omega arith in
        sym (next_reveal game s (omega arith) (omega arith)) ∙ ap reveal same ∙ sym (slot_at-reveal game w.0 is.ahead.0 w.1) ∙ ap (slot_at game) w.2
  ]
  | inr le ↦
      let past = slot_at-past game (next_of s) is.ahead.0 le in
      let below = reveals_past game (next_of s) is.ahead.0 past in
      sym (next_end game s (omega arith) (omega arith)) ∙ sym past
]

-- A stream is in order by its numbers: no more is committed than players commit ahead, and no
-- reveal comes before its commitments.
pub in_order : (game : Game) (s : Stream) → IsSession game → s.resolved ≤ game.turns → s.commits ≤ min (s.resolved + game.ahead) game.turns →
    (s.resolved ≡ 0) ⊎ (min (s.resolved + game.ahead) (game.turns + 1) ≤ s.commits + 1) → IsInOrder game s
in_order game s is turns within least = elim (cases_lt s.commits (min (s.resolved + game.ahead) game.turns)) [
  | inl lt ↦
      let at = commit_place-below game s.commits (omega arith) in
      let below = reveals_at_commit game s.commits (next_of s) is.ahead.0 (omega arith) (at ∙ front lt least) in
      omega arith
  | inr all ↦ elim (cases_lt s.resolved game.turns) [
    | inl left ↦
        let at = reveal_place-below game s.resolved left in
        sym (reveals_at_reveal game s.resolved (next_of s) left (at ∙ omega arith))
    | inr end ↦
        let ahead = is.ahead.0 in
        sym (reveals_past game (next_of s) is.ahead.0 (slot_at-past game (next_of s) is.ahead.0 (omega arith)) ∙ omega arith)
  ]
]
  where
    front : s.commits < min (s.resolved + game.ahead) game.turns → (s.resolved ≡ 0) ⊎ (min (s.resolved + game.ahead) (game.turns + 1) ≤ s.commits + 1) →
        s.commits + (s.commits + 1 - game.ahead) ≡ next_of s
    front lt (inl none) = omega arith
    front lt (inr before) = omega arith

-- the turn and the kind of what stands next
abbrev IsNext : Game → Stream → Slot → What → Type 0
IsNext game s slot Commit = (s.commits < min (s.resolved + game.ahead) game.turns) × (slot.turn ≡ s.commits)
IsNext game s slot Reveal = (min (s.resolved + game.ahead) game.turns ≤ s.commits) × (s.resolved < game.turns) × (slot.turn ≡ s.resolved)

slot_is : (a b : Slot) → Some a ≡ Some b → a ≡ b
slot_is a b e = cc

next_is : (game : Game) (s : Stream) (slot : Slot) → Some slot ≡ slot_next game s → IsNext game s slot slot.what
next_is game s slot e = go (commits_next game s.commits s.resolved) (nat_lt s.resolved game.turns) refl refl e
  where
    go : (x y : Bool) → commits_next game s.commits s.resolved ≡ x → nat_lt s.resolved game.turns ≡ y → Some slot ≡ (if x then commitment s.commits else if y then reveal s.resolved else None) → IsNext game s slot slot.what
    go true y next left e =
        let same = slot_is slot (record { what = Commit; turn = s.commits }) e in
        subst (λ (a : Slot). IsNext game s a a.what) (sym same) (ltb-true _ _ next, refl)
    go false true next left e =
        let same = slot_is slot (record { what = Reveal; turn = s.resolved }) e in
        subst (λ (a : Slot). IsNext game s a a.what) (sym same) (ltb-false _ _ next, ltb-true _ _ left, refl)
    go false false next left e = absurd (let no : Some slot ≡ None = e in cc)

pub is_next_commit : (game : Game) (s : Stream) (slot : Slot) (o : Option Slot) → o ≡ slot_next game s → o ≡ Some slot → slot.what ≡ Commit →
    (s.commits < min (s.resolved + game.ahead) game.turns) × (slot.turn ≡ s.commits)
is_next_commit game s slot o at is what = subst (IsNext game s slot) what (next_is game s slot (sym is ∙ at))

pub is_next_reveal : (game : Game) (s : Stream) (slot : Slot) (o : Option Slot) → o ≡ slot_next game s → o ≡ Some slot → slot.what ≡ Reveal →
    (min (s.resolved + game.ahead) game.turns ≤ s.commits) × (s.resolved < game.turns) × (slot.turn ≡ s.resolved)
is_next_reveal game s slot o at is what = subst (IsNext game s slot) what (next_is game s slot (sym is ∙ at))

-- nothing stands next only where all turns are resolved
pub is_next_end : (game : Game) (s : Stream) → None ≡ slot_next game s → (min (s.resolved + game.ahead) game.turns ≤ s.commits) × (game.turns ≤ s.resolved)
is_next_end game s e = go (commits_next game s.commits s.resolved) (nat_lt s.resolved game.turns) refl refl e
  where
    go : (x y : Bool) → commits_next game s.commits s.resolved ≡ x → nat_lt s.resolved game.turns ≡ y → None ≡ (if x then commitment s.commits else if y then reveal s.resolved else None) →
        (min (s.resolved + game.ahead) game.turns ≤ s.commits) × (game.turns ≤ s.resolved)
    go true y next left e = absurd (let no : None ≡ commitment s.commits = e in cc)
    go false true next left e = absurd (let no : None ≡ reveal s.resolved = e in cc)
    go false false next left e = (ltb-false _ _ next, ltb-false _ _ left)
