-- Heeded: one player's turns after one frame.
use Rattle.std.proofs.Common.{IsTrue, List, Option, Some, [], ap, append_assoc, false, inl, inr, length, refl, set, subst, suc, sym, zero, ℕ, ◌++◌, ◌<◌, ◌∙◌, ◌∷◌, ◌≡◌, ◌⊎◌}
use Rattle.std.specs.Prelude.{get_or, slice_get}
use Rattle.std.proofs.lemmas.List.{length-set}
use Rattle.std.proofs.lemmas.Option.{same_Some, slice_get_read}
use Rattle.definitions.specs.declared.frames.TurnFrame.{TurnFrame}
use Rattle.definitions.specs.declared.openings.Digest.{Digest}
use Rattle.definitions.specs.Held.{first_commit, known_to, next_known}
use Rattle.definitions.specs.World.{Game, is_open}
use Rattle.definition_laws.proofs.Headline.{known_to_sound}
use Rattle.frame_index.specs.Heads.{Ends}
use Rattle.frame_index.proofs.Headed.{after_set}
use Rattle.grid_world.specs.declared.streams.Stream.{Stream}
use Rattle.grid_world.specs.Streams.{next_of}
use Rattle.agreed_turns.specs.declared.accords.Accord.{Accord}
use Rattle.agreed_turns.specs.declared.heads.Head.{Head}
use Rattle.agreed_turns.specs.Heads.{GoesOn, IsAtEnd, fits}
use Rattle.agreed_turns.specs.States.{Heeded, IsSound, PlayerState}
use Rattle.agreed_turns.proofs.GoingOn.{goes_nowhere}
use Rattle.agreed_turns.proofs.Stuck.{still_ends, stuck_front}

-- what was read at a place
pub read_of : {X : Type 0} (xs ys : List X) (n i : ℕ) (x : X) → xs ≡ ys → n ≡ i → i < length ys → x ≡ get_or xs n x → slice_get ys i ≡ Some x
read_of {X} xs ys n i x same place lt read =
    ap (λ (zs : List X). slice_get zs i) (sym same) ∙ slice_get_read xs (length ys) i x (sym (ap length same)) lt (read ∙ ap (λ k. get_or xs k x) place)

set_same : {X : Type 0} (xs : List X) (i : ℕ) (x : X) → slice_get xs i ≡ Some x → xs ≡ set xs i x
set_same [] i x e = refl
set_same {X} (y ∷ ys) zero x e = ap (λ (z : X). z ∷ ys) (same_Some y x e)
set_same {X} (y ∷ ys) (suc i) x e = ap (λ (zs : List X). y ∷ zs) (set_same ys i x e)

-- a frame that doesn't stand at the head's next place leaves all as it is
pub not_met : (game : Game) (q i : ℕ) (before all : List TurnFrame) (f : TurnFrame) (p : PlayerState) (h k : Head) → slice_get p.heads i ≡ Some h → slice_get p.heads i ≡ Some k →
    IsAtEnd game q before all h → fits game q k f ≡ false → Heeded game q i before all f p p h
not_met game q i before all f p h k there read at_end other = record {
  head = h;
  heads = set_same p.heads i h there;
  at_end = record {
    read = at_end.read;
    ends = still_ends game q before all f h at_end (ap (λ (x : Head). fits game q x f) (same_Some h k (sym there ∙ read)) ∙ other);
    held = at_end.held;
  };
  on = goes_nowhere game q all h.stream p.accords at_end.read;
}

-- and one that does leaves the head at the end
pub was_met : (game : Game) (q i n : ℕ) (before all behind : List TurnFrame) (f : TurnFrame) (p : PlayerState) (xs : List Head) (old new : List Accord) (h k : Head) (r : Stream) (o : Option Digest) →
    record { heads = xs; accords = old } ≡ p → n ≡ i → all ≡ before ++ f ∷ behind → slice_get p.heads i ≡ Some h → slice_get p.heads i ≡ Some k →
    GoesOn game q all k.stream r old new → Ends game q all r → o ≡ first_commit all r.resolved →
    Heeded game q i before all f p (record { heads = set xs n (record { stream = r; held = o }); accords = new }) h
was_met game q i n before all behind f p xs old new h k r o view place parts there read on ends held = record {
  head = record { stream = r; held = o };
  heads = ap (λ (m : ℕ). set xs m (record { stream = r; held = o })) place ∙ ap (λ (s : PlayerState). set s.heads i (record { stream = r; held = o })) view;
  at_end = record {
    read = on.read;
    ends = stuck_front game q (known_to game q all (next_of r)) (before ++ f ∷ []) behind
        (ap (λ (gs : List TurnFrame). next_known game q gs (known_to game q all (next_of r))) (append_assoc before (f ∷ []) behind ∙ sym parts) ∙ ends);
    held = λ d e. held ∙ (known_to_sound game q all (next_of r)).first r.resolved d e;
  };
  on = subst (λ (s : PlayerState). GoesOn game q all h.stream r s.accords new) view
      (subst (λ (x : Head). GoesOn game q all x.stream r old new) (same_Some k h (sym read ∙ there)) on);
}

-- the tracks still end on open cells
pub sound_set : (game : Game) (n : ℕ) (p : PlayerState) (xs : List Head) (old new : List Accord) (k : Head) → record { heads = xs; accords = old } ≡ p → IsSound game p →
    IsTrue (is_open game.grid k.stream.track.at) → length new ≡ game.turns → IsSound game (record { heads = set xs n k; accords = new })
sound_set game n p xs old new k view sound one long = record {
  heads = length-set xs n k ∙ ap (λ (s : PlayerState). length s.heads) view ∙ sound.heads;
  accords = long;
  tracks = λ i h there. go i h (after_set xs n i k h there);
}
  where
    go : (i : ℕ) (h : Head) → ((i ≡ n) × (k ≡ h)) ⊎ ((i ≡ n → ⊥) × (slice_get xs i ≡ Some h)) → IsTrue (is_open game.grid h.stream.track.at)
    go i h (inl a) = subst (λ (x : Head). IsTrue (is_open game.grid x.stream.track.at)) a.1 one
    go i h (inr b) = sound.tracks i h (ap (λ (s : PlayerState). slice_get s.heads i) (sym view) ∙ b.1)
