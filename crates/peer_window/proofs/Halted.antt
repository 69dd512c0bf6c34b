-- Halted: from what a window holds no step leads on.
use Rattle.std.proofs.Common.{◌≡◌, ℕ, suc, ◌+◌, ◌*◌, ◌<◌, List, refl, sym, ◌∙◌, ap, arith, inl, inr, Option, Some}
use Rattle.std.specs.Prelude.{min}
use Rattle.std.proofs.lemmas.Bool.{cases_lt}
use Rattle.plain_lemmas.proofs.Lists.{some_within}
use Rattle.definitions.specs.declared.world.Track.{Track}
use Rattle.definitions.specs.World.{Game}
use Rattle.definitions.specs.Held.{known_to, next_known, places_in}
use Rattle.definition_laws.proofs.Knowing.{known_to_whole}
use Rattle.definition_laws.proofs.Windows.{at_places}
use Rattle.grid_world.specs.Sessions.{IsSession}
use Rattle.peer_window.specs.declared.received.Received.{Received}
use Rattle.grid_world.specs.declared.streams.Stream.{Stream}
use Rattle.peer_window.specs.declared.walk.Step.TheVariants.{Committed, Resolved}
use Rattle.peer_window.specs.Steps.{IsThere, commit_step, step_from}
use Rattle.peer_window.specs.Slots.{frames_in, in_order, shown, slot}
use Rattle.peer_window.specs.Windows.{IsHeld}
use Rattle.peer_window.proofs.Lookups.{count_places}
use Rattle.peer_window.proofs.Reached.{by_commit, slots_committed, slots_resolved, step_committed, step_resolved}

-- what a window holds is reached
pub held_reach : (game : Game) (q : ℕ) (ss : List (Option Received)) (at : Stream) → IsHeld game q ss at → IsThere game q ss at
held_reach game q ss at h =
    let places : places_in (known_to game q (frames_in (in_order ss)) (2 * game.turns)) ≡ at.commits + at.resolved = ap places_in h.known ∙ sym (count_places q at.commits at.resolved ss (shown ss at.commits at.resolved) refl h.slots) in
    record {
      known = ap (known_to game q (frames_in (in_order ss))) (sym places) ∙ at_places game q (frames_in (in_order ss)) (2 * game.turns) ∙ h.known;
      track = h.leads;
    }

-- what is known after one frame more is no more
stays : (game : Game) (q n : ℕ) (ss : List (Option Received)) (at : Stream) → IsHeld game q ss at → n ≡ suc (at.commits + at.resolved) → known_to game q (frames_in (in_order ss)) n ≡ shown ss at.commits at.resolved
unfolding known_to
stays game q n ss at h e =
    let stream = held_reach game q ss at h in
    ap (known_to game q (frames_in (in_order ss))) e ∙ ap (next_known game q (frames_in (in_order ss))) (stream.known ∙ sym h.known) ∙ known_to_whole game q (frames_in (in_order ss)) ∙ h.known

-- no step leads on from what is held
pub never_committed : (game : Game) (q : ℕ) (ss : List (Option Received)) (at : Stream) → IsSession game → IsHeld game q ss at → step_from game ss at ≡ Committed → ⊥
never_committed game q ss at is h e =
    let on = step_committed game q ss at h.slots (held_reach game q ss at h) e in
    let slots = slots_committed game q ss at h.places h.slots e in
    let a = count_places q (at.commits + 1) at.resolved ss (shown ss (at.commits + 1) at.resolved) refl slots in
    let b = count_places q at.commits at.resolved ss (shown ss at.commits at.resolved) refl h.slots in
    let c = ap places_in (sym on.known ∙ stays game q (at.commits + 1 + at.resolved) ss at h (omega arith)) in
    omega arith

pub never_resolved : (game : Game) (q : ℕ) (ss : List (Option Received)) (at : Stream) (track : Track) → IsSession game → IsHeld game q ss at → step_from game ss at ≡ Resolved track → ⊥
never_resolved game q ss at track is h e =
    let on = step_resolved game q ss at track is h.places h.slots (held_reach game q ss at h) e in
    let slots = slots_resolved game q ss at track is h.places h.slots e in
    let a = count_places q at.commits (at.resolved + 1) ss (shown ss at.commits (at.resolved + 1)) refl slots in
    let b = count_places q at.commits at.resolved ss (shown ss at.commits at.resolved) refl h.slots in
    let c = ap places_in (sym on.known ∙ stays game q (at.commits + (at.resolved + 1)) ss at h (omega arith)) in
    omega arith

-- a commitment that came to the first turn that isn't resolved is held
pub held_here : (game : Game) (q : ℕ) (ss : List (Option Received)) (at : Stream) (c : Received) → IsSession game → IsHeld game q ss at → slot ss (2 * at.resolved) ≡ Some c → at.resolved < at.commits
held_here game q ss at c is h e = elim (cases_lt at.resolved at.commits) [
  | inl lt ↦ lt
  | inr ge ↦
      let before = h.slots.before in
      let same : at.commits ≡ at.resolved = omega arith in
      let within = some_within ss (2 * at.resolved) c e in
      let places = h.places in
      let ahead = is.ahead.0 in
      let next : at.commits < min (at.resolved + game.ahead) game.turns = omega arith in
      absurd (never_committed game q ss at is h (by_commit game ss at next ∙ ap commit_step (ap (λ (n : ℕ). slot ss (2 * n)) same ∙ e)))
]
