-- Rivals: a frame that comes beside a different one of its place shows what is known as before, and makes a clash.
use Rattle.std.proofs.Common.{◌≡◌, ℕ, ◌+◌, ◌*◌, ◌≤◌, List, [], ◌∷◌, ◌++◌, length, refl, sym, ◌∙◌, ap, arith, inl, inr, Option, Some, None}
use Rattle.std.specs.Prelude.{min, slice_get}
use Rattle.std.specs.Option.{option_or}
use Rattle.std.proofs.lemmas.Bool.{cases_lt}
use Rattle.definitions.specs.declared.openings.Digest.{Digest}
use Rattle.definitions.specs.declared.frames.TurnFrame.{TurnFrame}
use Rattle.definitions.specs.World.{Game}
use Rattle.definitions.specs.Lists.{first_of}
use Rattle.definitions.specs.Held.{commit_of, known_to, next_known, opened, opening_of, with_commit, with_move}
use Rattle.definition_laws.proofs.Knowing.{known_to_whole, next_commit, next_end, next_reveal}
use Rattle.definition_laws.proofs.Windows.{known_to_unmoved}
use Rattle.grid_world.specs.Sessions.{IsSession}
use Rattle.peer_window.specs.declared.received.Received.{Received}
use Rattle.grid_world.specs.declared.streams.Stream.{Stream}
use Rattle.peer_window.specs.Clashes.{first_clash}
use Rattle.peer_window.specs.Slots.{AreSlots, digests_to, frames_in, in_order, moves_to, slot_of, shown, slot}
use Rattle.peer_window.specs.Windows.{IsHeld}
use Rattle.peer_window.proofs.Clashing.{next_empty}
use Rattle.peer_window.proofs.Fitting.{commit_elsewhere, opening_elsewhere}
use Rattle.peer_window.proofs.Grown.{frames_append}
use Rattle.peer_window.proofs.Reached.{commit_next, next_slot, reveal_next}
use Rattle.peer_window.proofs.Stretches.{digests_length, moves_length}

first_append : {Y : Type 0} (g : TurnFrame → Option Y) (fs : List TurnFrame) (f : TurnFrame) → g f ≡ None → first_of g (fs ++ f ∷ []) ≡ first_of g fs
first_append g [] f e = ap (λ o. option_or o None) e
first_append g (x ∷ fs) f e = ap (option_or (g x)) (first_append g fs f e)

-- a frame of another slot than the next leads nowhere
unmoved : (game : Game) (q : ℕ) (ss : List (Option Received)) (at : Stream) (fs : List TurnFrame) (f : TurnFrame) → AreSlots q ss at.commits at.resolved → (slot_of f ≡ next_slot game at → ⊥) →
    next_known game q (fs ++ f ∷ []) (shown ss at.commits at.resolved) ≡ next_known game q fs (shown ss at.commits at.resolved)
unmoved game q ss at fs f w apart =
    let a = digests_length q at.commits at.resolved ss at.commits w (omega arith) in
    let b = moves_length q at.commits at.resolved ss at.resolved w (omega arith) in
    elim (cases_lt at.commits (min (at.resolved + game.ahead) game.turns)) [
      | inl lt ↦
          let n = commit_next game at lt in
          next_commit game q (fs ++ f ∷ []) (shown ss at.commits at.resolved) (omega arith)
          ∙ ap (with_commit (shown ss at.commits at.resolved)) (first_append (commit_of (length (digests_to ss at.commits))) fs f (commit_elsewhere f (length (digests_to ss at.commits)) (slot_of f) refl (λ k. apart (omega arith))))
          ∙ sym (next_commit game q fs (shown ss at.commits at.resolved) (omega arith))
      | inr ge ↦ elim (cases_lt at.resolved game.turns) [
        | inl below ↦
            next_reveal game q (fs ++ f ∷ []) (shown ss at.commits at.resolved) (omega arith) (omega arith)
            ∙ ap (with_move (shown ss at.commits at.resolved)) (opens ge (slice_get (digests_to ss at.commits) (length (moves_to ss at.resolved))))
            ∙ sym (next_reveal game q fs (shown ss at.commits at.resolved) (omega arith) (omega arith))
        | inr end ↦ next_end game q (fs ++ f ∷ []) (shown ss at.commits at.resolved) (omega arith) (omega arith) ∙ sym (next_end game q fs (shown ss at.commits at.resolved) (omega arith) (omega arith))
      ]
    ]
  where
    opens : min (at.resolved + game.ahead) game.turns ≤ at.commits → (o : Option Digest) →
        opened game q (moves_to ss at.resolved) (fs ++ f ∷ []) (length (moves_to ss at.resolved)) o ≡ opened game q (moves_to ss at.resolved) fs (length (moves_to ss at.resolved)) o
    opens ge None = refl
    opens ge (Some d) =
        let n = reveal_next game at ge in
        let b = moves_length q at.commits at.resolved ss at.resolved w (omega arith) in
        first_append (opening_of game q (moves_to ss at.resolved) d (length (moves_to ss at.resolved))) fs f
        (opening_elsewhere game q (moves_to ss at.resolved) d f (length (moves_to ss at.resolved)) (slot_of f) refl (λ k. apart (omega arith)))

-- with a rival nothing more is known
pub rival_known : (game : Game) (q : ℕ) (ss : List (Option Received)) (at : Stream) (r h : Received) → IsSession game → IsHeld game q ss at → first_clash game q (in_order ss) ≡ None → slot ss (slot_of r.frame) ≡ Some h →
    known_to game q (frames_in (in_order ss ++ r ∷ [])) (2 * game.turns) ≡ shown ss at.commits at.resolved
rival_known game q ss at r h is w clean e =
    ap (λ (fs : List TurnFrame). known_to game q fs (2 * game.turns)) (frames_append (in_order ss) r)
    ∙ known_to_unmoved game q (frames_in (in_order ss)) (r.frame ∷ [])
    (ap (next_known game q (frames_in (in_order ss) ++ r.frame ∷ [])) w.known ∙ stays ∙ ap (next_known game q (frames_in (in_order ss))) (sym w.known) ∙ known_to_whole game q (frames_in (in_order ss)))
    ∙ w.known
  where
    apart : slot_of r.frame ≡ next_slot game at → ⊥
    apart k = let no : None ≡ Some h = sym (next_empty game q ss at is w clean) ∙ ap (slot ss) (sym k) ∙ e in cc

    stays : next_known game q (frames_in (in_order ss) ++ r.frame ∷ []) (shown ss at.commits at.resolved) ≡ next_known game q (frames_in (in_order ss)) (shown ss at.commits at.resolved)
    stays = unmoved game q ss at (frames_in (in_order ss)) r.frame w.slots apart
