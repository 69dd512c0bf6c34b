-- Grown: what is known with one frame more, which stands in a slot of its own or beside another.
use Rattle.std.proofs.Common.{◌≡◌, ℕ, zero, suc, ◌+◌, ◌*◌, ◌<◌, ◌≤◌, List, [], ◌∷◌, ◌++◌, length, set, refl, sym, ◌∙◌, ap, arith, inl, inr, ◌⊎◌, Option, Some, None, get_or-set_other, get_or-set_same, length-set}
use Rattle.std.specs.Prelude.{is_some}
use Rattle.std.proofs.lemmas.Bool.{cases_lt, false≢true}
use Rattle.std.proofs.lemmas.List.{map-append}
use Rattle.definitions.specs.declared.world.Move.{Move}
use Rattle.definitions.specs.declared.openings.Digest.{Digest}
use Rattle.definitions.specs.declared.frames.TurnFrame.{TurnFrame}
use Rattle.definitions.specs.World.{Game}
use Rattle.definitions.specs.Moves.{track_after}
use Rattle.definitions.specs.Logs.{player_of}
use Rattle.definitions.specs.Held.{Known, known_to, next_known, places_in}
use Rattle.definition_laws.proofs.Knowing.{known_from}
use Rattle.definition_laws.proofs.Windows.{before_known, stuck_whole}
use Rattle.peer_window.specs.declared.received.Received.{Received}
use Rattle.grid_world.specs.declared.streams.Stream.{Stream}
use Rattle.peer_window.specs.Slots.{AreSlots, digest_in, digests_to, frames_in, in_order, move_in, moves_to, slot_of, shown, slot}
use Rattle.peer_window.specs.Steps.{IsThere, IsWalked}
use Rattle.peer_window.specs.Windows.{IsHeld}
use Rattle.peer_window.proofs.Lookups.{count_places}
use Rattle.peer_window.proofs.Ordered.{AllBefore, in_order_set}

-- an empty slot is none of those that are filled
commit_apart : (q c u p t : ℕ) (ss : List (Option Received)) → AreSlots q ss c u → slot ss p ≡ None → t < c → 2 * t ≡ p → ⊥
commit_apart q c u p t ss w none lt at = false≢true (ap is_some (sym none ∙ ap (slot ss) (sym at)) ∙ w.committed t lt)

reveal_apart : (q c u p t : ℕ) (ss : List (Option Received)) → AreSlots q ss c u → slot ss p ≡ None → t < u → 2 * t + 1 ≡ p → ⊥
reveal_apart q c u p t ss w none lt at = false≢true (ap is_some (sym none ∙ ap (slot ss) (sym at)) ∙ w.revealed t lt)

pub slot_other : (ss : List (Option Received)) (p i : ℕ) (r : Received) → (i ≡ p → ⊥) → slot (set ss p (Some r)) i ≡ slot ss i
slot_other ss p i r apart = get_or-set_other ss p i (Some r) None apart

pub slot_same : (ss : List (Option Received)) (p : ℕ) (r : Received) → p < length ss → slot (set ss p (Some r)) p ≡ Some r
slot_same ss p r lt = get_or-set_same ss p (Some r) None lt

pub cases_eq : (i p : ℕ) → (i ≡ p) ⊎ (i ≡ p → ⊥)
cases_eq i p = elim (cases_lt i p) [
  | inl lt ↦ inr (λ e. omega arith)
  | inr ge ↦ elim (cases_lt p i) [
    | inl lt ↦ inr (λ e. omega arith)
    | inr le ↦ inl (omega arith)
  ]
]

-- with a frame in its empty slot
pub slots_set : (q c u p : ℕ) (ss : List (Option Received)) (r : Received) → AreSlots q ss c u → slot_of r.frame ≡ p → player_of r.frame ≡ q → p < length ss → slot ss p ≡ None → AreSlots q (set ss p (Some r)) c u
slots_set q c u p ss r w at own lt none =
    let len = length-set ss p (Some r) in
    let within = w.within in
    let few = w.few in
    record {
      own = λ i x e. elim (cases_eq i p) [
        | inl same ↦
            let is : Some r ≡ Some x = sym (slot_same ss p r lt) ∙ ap (slot (set ss p (Some r))) (sym same) ∙ e in
            let it : r ≡ x = cc in
            (ap (λ (y : Received). slot_of y.frame) (sym it) ∙ at ∙ sym same, ap (λ (y : Received). player_of y.frame) (sym it) ∙ own)
        | inr apart ↦ w.own i x (sym (slot_other ss p i r apart) ∙ e)
      ];
      committed = λ t below. ap is_some (slot_other ss p (2 * t) r (commit_apart q c u p t ss w none below)) ∙ w.committed t below;
      revealed = λ t below. ap is_some (slot_other ss p (2 * t + 1) r (reveal_apart q c u p t ss w none below)) ∙ w.revealed t below;
      before = w.before;
      within = omega arith;
      few = omega arith;
    }

digests_kept : (q c u p k : ℕ) (ss : List (Option Received)) (r : Received) → AreSlots q ss c u → slot ss p ≡ None → k ≤ c → digests_to (set ss p (Some r)) k ≡ digests_to ss k
unfolding digests_to
digests_kept q c u p zero ss r w none h = refl
digests_kept q c u p (suc k) ss r w none h =
    ap (λ (ds : List Digest). ds ++ digest_in (slot (set ss p (Some r)) (2 * k))) (digests_kept q c u p k ss r w none (omega arith))
    ∙ ap (λ (o : Option Received). digests_to ss k ++ digest_in o) (slot_other ss p (2 * k) r (commit_apart q c u p k ss w none (omega arith)))

moves_kept : (q c u p k : ℕ) (ss : List (Option Received)) (r : Received) → AreSlots q ss c u → slot ss p ≡ None → k ≤ u → moves_to (set ss p (Some r)) k ≡ moves_to ss k
unfolding moves_to
moves_kept q c u p zero ss r w none h = refl
moves_kept q c u p (suc k) ss r w none h =
    ap (λ (ms : List Move). ms ++ move_in (slot (set ss p (Some r)) (2 * k + 1))) (moves_kept q c u p k ss r w none (omega arith))
    ∙ ap (λ (o : Option Received). moves_to ss k ++ move_in o) (slot_other ss p (2 * k + 1) r (reveal_apart q c u p k ss w none (omega arith)))

pub shown_kept : (q c u p : ℕ) (ss : List (Option Received)) (r : Received) → AreSlots q ss c u → slot ss p ≡ None → shown (set ss p (Some r)) c u ≡ shown ss c u
shown_kept q c u p ss r w none =
    known_from _ _ (digests_kept q c u p c ss r w none (omega arith)) (moves_kept q c u p u ss r w none (omega arith))

pub frames_append : (rs : List Received) (r : Received) → frames_in (rs ++ r ∷ []) ≡ frames_in rs ++ r.frame ∷ []
frames_append rs r = map-append (λ x. x.frame) rs (r ∷ [])

-- what was there before is there still
pub stream_kept : (game : Game) (q p : ℕ) (ss : List (Option Received)) (r : Received) (at : Stream) → IsHeld game q ss at → p < length ss → slot ss p ≡ None → AllBefore r.entry (in_order ss) →
    IsThere game q (set ss p (Some r)) at
stream_kept game q p ss r at w lt none later =
    let kept = shown_kept q at.commits at.resolved p ss r w.slots none in
    let places : places_in (known_to game q (frames_in (in_order ss)) (2 * game.turns)) ≡ at.commits + at.resolved = ap places_in w.known ∙ sym (count_places q at.commits at.resolved ss (shown ss at.commits at.resolved) refl w.slots) in
    let frames : frames_in (in_order (set ss p (Some r))) ≡ frames_in (in_order ss) ++ r.frame ∷ [] = ap frames_in (in_order_set ss p r lt none later) ∙ frames_append (in_order ss) r in
    record {
      known = ap (λ (fs : List TurnFrame). known_to game q fs (at.commits + at.resolved)) frames
          ∙ ap (known_to game q (frames_in (in_order ss) ++ r.frame ∷ [])) (sym places)
          ∙ before_known game q (frames_in (in_order ss)) (r.frame ∷ []) ∙ w.known ∙ sym kept;
      track = w.leads ∙ ap (λ (k : Known). track_after game q k.moves) (sym kept);
    }

-- what the walk came to is all that is known
pub walked_held : (game : Game) (q p : ℕ) (ss : List (Option Received)) (r : Received) (at to : Stream) → IsHeld game q ss at → AreSlots q (set ss p (Some r)) to.commits to.resolved → IsWalked game q (set ss p (Some r)) to →
    IsHeld game q (set ss p (Some r)) to
walked_held game q p ss r at to h slots walked = record {
  player = h.player;
  places = length-set ss p (Some r) ∙ h.places;
  slots = slots;
  known = stuck_whole game q (frames_in (in_order (set ss p (Some r)))) (to.commits + to.resolved)
      (ap (next_known game q (frames_in (in_order (set ss p (Some r))))) walked.stream.known ∙ walked.whole ∙ sym walked.stream.known)
      ∙ walked.stream.known;
  leads = walked.stream.track;
}
