-- Headed: a place further, each log's stream still is what the log shows.
use Rattle.std.proofs.Common.{List, Option, None, Some, false, true, [], ◌∷◌, arith, ap, inl, inr, refl, replicate, set, subst, suc, sym, zero, ℕ, ◌+◌, ◌<◌, ◌≤◌, ◌∙◌, ◌≡◌, ◌⊎◌, length, slice_get, IsTrue}
use Rattle.std.specs.Prelude.{min, ◌==◌}
use Rattle.std.specs.Option.{unwrap_or}
use Rattle.std.proofs.lemmas.Bool.{cases_lt, eq-eqb, eqb-true, false≢true}
use Rattle.std.proofs.lemmas.Option.{slice_get_within}
use Rattle.definitions.specs.declared.frames.TurnFrame.{TurnFrame}
use Rattle.definitions.specs.declared.logs.Entry.{Entry}
use Rattle.definitions.specs.declared.places.Slot.{Slot}
use Rattle.definitions.specs.World.{Game, is_open, players_of}
use Rattle.definitions.specs.Logs.{got_of}
use Rattle.definitions.specs.Places.{slot_at}
use Rattle.definitions.specs.Held.{first_commit, known_to, next_known}
use Rattle.definition_laws.proofs.Knowing.{known_to_orderly, places_or_stuck}
use Rattle.grid_world.specs.Sessions.{IsSession}
use Rattle.grid_world.specs.declared.streams.Stream.{Stream}
use Rattle.grid_world.specs.Streams.{IsInOrder, next_of}
use Rattle.grid_world.proofs.NextSlots.{in_order}
use Rattle.frame_index.specs.Streams.{IsCommitNext, IsNext, IsReadFrom, stream_of}
use Rattle.frame_index.proofs.StreamsShown.{held_there, read_from, read_known, stream_facts}
use Rattle.frame_index.specs.Heads.{AreOpen, Ends, Stand, Stands}

no_less : (a b : ℕ) → (a < b → ⊥) → b ≤ a
no_less a b h = elim (cases_lt a b) [
  | inl lt ↦ absurd (h lt)
  | inr ge ↦ ge
]

-- before a reveal, the digest held of its turn is that of the first commitment
pub held_before : (game : Game) (q : ℕ) (fs : List TurnFrame) (s : Stream) → IsSession game → IsReadFrom game q fs s → s.resolved < game.turns → (IsCommitNext game s → ⊥) →
    first_commit fs s.resolved ≡ slice_get (known_to game q fs (next_of s)).digests s.resolved
held_before game q fs s is read lt next =
    let past = no_less s.commits (min (s.resolved + game.ahead) game.turns) next in
    let ahead = is.ahead.0 in
    held_there game q s.resolved fs s read (omega arith)

-- what stands at a place after one was written
pub after_set : {X : Type 0} (xs : List X) (n i : ℕ) (x y : X) → slice_get (set xs n x) i ≡ Some y → ((i ≡ n) × (x ≡ y)) ⊎ ((i ≡ n → ⊥) × (slice_get xs i ≡ Some y))
after_set [] n i x y h = absurd (let none : None ≡ Some y = h in cc)
after_set (z ∷ zs) zero zero x y h = inl (refl, let e : x ≡ y = cc in e)
after_set (z ∷ zs) zero (suc i) x y h = inr ((λ e. absurd (omega arith)), h)
after_set (z ∷ zs) (suc n) zero x y h = inr ((λ e. absurd (omega arith)), h)
after_set (z ∷ zs) (suc n) (suc i) x y h = go (after_set zs n i x y h)
  where
    go : ((i ≡ n) × (x ≡ y)) ⊎ ((i ≡ n → ⊥) × (slice_get zs i ≡ Some y)) → ((suc i ≡ suc n) × (x ≡ y)) ⊎ ((suc i ≡ suc n → ⊥) × (slice_get zs i ≡ Some y))
    go (inl a) = inl (ap suc a.0, a.1)
    go (inr b) = inr ((λ e. b.0 (let f : i ≡ n = omega arith in f)), b.1)

-- all of a list of one item repeated are it
pub repeated : {X : Type 0} (n i : ℕ) (x y : X) → slice_get (replicate n x) i ≡ Some y → x ≡ y
repeated zero i x y h = absurd (let none : None ≡ Some y = h in cc)
repeated (suc n) zero x y h = let e : x ≡ y = cc in e
repeated (suc n) (suc i) x y h = repeated n i x y h

-- the first ones stand at the place after, and the others still at the place
abbrev pub Halfway : Game → ℕ → List (List Entry) → ℕ → ℕ → List Stream → Type 0
Halfway game q logs f n ss = (i : ℕ) (h : List Entry) (s : Stream) → slice_get logs i ≡ Some h → slice_get ss i ≡ Some s →
    (i < n → Stands game q (got_of q h) (f + 1) s) × (n ≤ i → Stands game q (got_of q h) f s)

pub halfway_none : (game : Game) (q : ℕ) (logs : List (List Entry)) (f : ℕ) (ss : List Stream) → Stand game q logs f ss → Halfway game q logs f 0 ss
halfway_none game q logs f ss stand i h s there at = ((λ lt. absurd (omega arith)), λ le. stand i h s there at)

pub halfway_more : (game : Game) (q : ℕ) (logs : List (List Entry)) (f : ℕ) (n : ℕ) (ss : List Stream) (old new : Stream) → slice_get ss n ≡ Some old →
    ((h : List Entry) → slice_get logs n ≡ Some h → Stands game q (got_of q h) f old → Stands game q (got_of q h) (f + 1) new) →
    Halfway game q logs f n ss → Halfway game q logs f (n + 1) (set ss n new)
halfway_more game q logs f n ss old new here moved half i h s there at = go (after_set ss n i new s at)
  where
    go : ((i ≡ n) × (new ≡ s)) ⊎ ((i ≡ n → ⊥) × (slice_get ss i ≡ Some s)) →
        (i < n + 1 → Stands game q (got_of q h) (f + 1) s) × (n + 1 ≤ i → Stands game q (got_of q h) f s)
    go (inl a) =
        let same : slice_get logs n ≡ Some h = ap (slice_get logs) (sym a.0) ∙ there in
        let place = a.0 in
        ((λ lt. subst (Stands game q (got_of q h) (f + 1)) a.1 (moved h same ((half n h old same here).1 (omega arith)))), λ le. absurd (omega arith))
    go (inr b) = let parts = half i h s there b.1 in ((λ lt. parts.0 (less lt)), λ le. parts.1 (omega arith))
      where
        less : i < n + 1 → i < n
        less lt = elim (cases_lt i n) [
          | inl x ↦ x
          | inr x ↦ absurd (b.0 (omega arith))
        ]

pub halfway_all : (game : Game) (q : ℕ) (logs : List (List Entry)) (f : ℕ) (n : ℕ) (ss : List Stream) → length ss ≤ n → Halfway game q logs f n ss → Stand game q logs (f + 1) ss
halfway_all game q logs f n ss le half i h s there at = let lt = slice_get_within ss i s at in (half i h s there at).0 (omega arith)

pub open_set : (game : Game) (ss : List Stream) (n : ℕ) (new : Stream) → IsTrue (is_open game.grid new.track.at) → AreOpen game ss → AreOpen game (set ss n new)
open_set game ss n new one all i s at = go (after_set ss n i new s at)
  where
    go : ((i ≡ n) × (new ≡ s)) ⊎ ((i ≡ n → ⊥) × (slice_get ss i ≡ Some s)) → IsTrue (is_open game.grid s.track.at)
    go (inl a) = subst (λ (r : Stream). IsTrue (is_open game.grid r.track.at)) a.1 one
    go (inr b) = all i s b.1

-- of no place all logs show the same
pub start_open : (game : Game) (q : ℕ) (s : Stream) (n : ℕ) → IsSession game → q < players_of game → ((fs : List TurnFrame) → s ≡ stream_of game q (known_to game q fs 0)) → AreOpen game (replicate n s)
start_open game q s n is lt start i r at =
    subst (λ (x : Stream). IsTrue (is_open game.grid x.track.at)) (sym (start []) ∙ repeated n i s r at) (stream_facts game q 0 [] is lt).opens

pub start_stand : (game : Game) (q : ℕ) (s : Stream) (n : ℕ) (logs : List (List Entry)) → ((fs : List TurnFrame) → s ≡ stream_of game q (known_to game q fs 0)) → Stand game q logs 0 (replicate n s)
start_stand game q s n logs start i h r there at = subst (Stands game q (got_of q h) 0) (repeated n i s r at) (start (got_of q h))

-- a stream that is what the frames show of the places before one
module _ (game : Game) (q place : ℕ) (fs : List TurnFrame) (s : Stream) (stands : Stands game q fs place s) where
  pub stands_read : IsReadFrom game q fs s
  stands_read = read_from game q place fs s stands

  same_known : known_to game q fs (next_of s) ≡ known_to game q fs place
  same_known = read_known game q place fs s stands

  known_more : next_known game q fs (known_to game q fs place) ≡ known_to game q fs (place + 1)
  unfolding known_to
  known_more = let more : suc place ≡ place + 1 = omega arith in ap (known_to game q fs) more

  -- it has come to the place, or ends before it
  pub stands_ends : (next_of s ≡ place) ⊎ Ends game q fs s
  stands_ends = elim (places_or_stuck game q fs place) [
    | inl all ↦ inl (ap next_of stands ∙ all)
    | inr still ↦ inr (ap (next_known game q fs) same_known ∙ still ∙ sym same_known)
  ]

  -- its commitments and reveals are those of the places below the next
  pub stands_order : IsSession game → IsInOrder game s
  stands_order is =
      let o = known_to_orderly game q fs place in
      let commits = ap (λ (r : Stream). r.commits) stands in
      let resolved = ap (λ (r : Stream). r.resolved) stands in
      let within = o.within in
      let turns = o.turns in
      in_order game s is (omega arith) (omega arith) (least o.least)
    where
      least : (length (known_to game q fs place).moves ≡ 0) ⊎ (min (length (known_to game q fs place).moves + game.ahead) (game.turns + 1) ≤ length (known_to game q fs place).digests + 1) →
          (s.resolved ≡ 0) ⊎ (min (s.resolved + game.ahead) (game.turns + 1) ≤ s.commits + 1)
      least (inl none) = inl (ap (λ (r : Stream). r.resolved) stands ∙ none)
      least (inr some) =
          let commits = ap (λ (r : Stream). r.commits) stands in
          let resolved = ap (λ (r : Stream). r.resolved) stands in
          inr (omega arith)

  -- where it ends, it is what they show of one place more
  pub stands_still : Ends game q fs s → Stands game q fs (place + 1) s
  stands_still ends =
      stands ∙ ap (stream_of game q) (sym same_known ∙ sym ends ∙ ap (next_known game q fs) same_known ∙ known_more)

  pub stands_before : (next_of s == place) ≡ false → Stands game q fs (place + 1) s
  stands_before other = elim stands_ends [
    | inl here ↦ absurd (false≢true (sym other ∙ eq-eqb _ _ here))
    | inr ends ↦ stands_still ends
  ]

  -- and so is the stream with one frame more
  pub stands_on : (o : Option Stream) → (next_of s == place) ≡ true → IsNext game q fs s o → Stands game q fs (place + 1) (unwrap_or o s)
  stands_on None here next = stands_still next
  stands_on (Some r) here next =
      let more : next_of r ≡ place + 1 = next.1 ∙ ap (λ n. n + 1) (eqb-true _ _ here) in
      next.0 ∙ ap (λ n. stream_of game q (known_to game q fs n)) more

  -- what stands next in it is what stands at the place
  pub stands_slot : IsSession game → (o : Option Slot) → (IsInOrder game s → o ≡ slot_at game (next_of s)) → (next_of s == place) ≡ true → o ≡ slot_at game place
  stands_slot is o at here = at (stands_order is) ∙ ap (slot_at game) (eqb-true _ _ here)
