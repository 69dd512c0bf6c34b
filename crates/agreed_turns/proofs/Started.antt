-- Started: what stands for logs without entries.
use Rattle.std.proofs.Common.{Bool, List, None, Some, [], ap, arith, false, inl, inr, length, refl, replicate, subst, suc, sym, true, zero, ℕ, ◌*◌, ◌++◌, ◌<◌, ◌∙◌, ◌∷◌, ◌≡◌, ◌⊎◌}
use Rattle.std.specs.Prelude.{if◌then◌else◌, slice_get, ◌==◌}
use Rattle.std.proofs.lemmas.List.{length-replicate}
use Rattle.std.proofs.lemmas.Option.{none-some}
use Rattle.definitions.specs.declared.frames.TurnFrame.{TurnFrame}
use Rattle.definitions.specs.declared.logs.Entry.{Entry}
use Rattle.definitions.specs.declared.world.Move.{Move}
use Rattle.definitions.specs.Held.{known, known_to}
use Rattle.definitions.specs.Lists.{item_or}
use Rattle.definitions.specs.Logs.{frames_of, got_of, made}
use Rattle.definitions.specs.World.{Game, players_of}
use Rattle.definition_laws.proofs.Listing.{slice_get_push}
use Rattle.definition_laws.proofs.Windows.{stuck_whole}
use Rattle.frame_index.proofs.StreamsShown.{shown_facts}
use Rattle.grid_world.specs.Sessions.{IsSession}
use Rattle.agreed_turns.specs.declared.accords.Accord.{Accord}
use Rattle.agreed_turns.specs.declared.accords.Accord.TheVariants.{Open}
use Rattle.agreed_turns.specs.declared.heads.Head.{Head}
use Rattle.agreed_turns.specs.Accords.{accord_of}
use Rattle.agreed_turns.specs.Agreed.{resolved_at}
use Rattle.agreed_turns.specs.Heads.{IsAtEnd}
use Rattle.agreed_turns.specs.States.{AreSound, IsOf, IsOfPlayer, IsSound, PlayerState, shown}
use Rattle.agreed_turns.proofs.Given.{none_given}
use Rattle.agreed_turns.proofs.Stuck.{nothing_shown}

-- all heads are at the end of no frames
abbrev pub AreAtStart : Game → ℕ → List Head → Type 0
AreAtStart game q hs = (i : ℕ) (h : Head) → slice_get hs i ≡ Some h → IsAtEnd game q [] [] h

pub start_none : (game : Game) (q : ℕ) → AreAtStart game q []
start_none game q i h e = absurd (none-some h e)

pub start_more : (game : Game) (q : ℕ) (hs : List Head) (k : Head) → AreAtStart game q hs → IsAtEnd game q [] [] k → AreAtStart game q (hs ++ k ∷ [])
start_more game q hs k all one i h e = go (slice_get_push hs k i h e)
  where
    go : (slice_get hs i ≡ Some h) ⊎ ((i ≡ length hs) × (k ≡ h)) → IsAtEnd game q [] [] h
    go (inl a) = all i h a
    go (inr b) = subst (λ (x : Head). IsAtEnd game q [] [] x) b.1 one

same_item : {X : Type 0} (n i : ℕ) (x : X) → item_or (replicate n x) i x ≡ x
same_item zero i x = refl
same_item (suc n) zero x = refl
same_item (suc n) (suc i) x = same_item n i x

same_get : {X : Type 0} (n i : ℕ) (x : X) → i < n → slice_get (replicate n x) i ≡ Some x
same_get zero i x lt = absurd (omega arith)
same_get (suc n) zero x lt = refl
same_get (suc n) (suc i) x lt = same_get n i x (omega arith)

no_frames : (i q : ℕ) → frames_of i q [] ≡ []
unfolding made got_of
no_frames i q = go (q == i)
  where
    go : (b : Bool) → (if b then made [] else got_of q []) ≡ []
    go true = refl
    go false = refl

none_shown : (n q i : ℕ) → shown (replicate n []) q i ≡ []
none_shown n q i = ap (λ (h : List Entry). frames_of i q h) (same_item n i []) ∙ no_frames i q

none_resolved : (game : Game) (n q t i : ℕ) → resolved_at game (replicate n []) q t i ≡ None
unfolding known known_to
none_resolved game n q t i =
    ap (λ (fs : List TurnFrame). slice_get (known_to game q fs (2 * game.turns)).moves t) (none_shown n q i)
    ∙ ap (λ k. slice_get k.moves t) (stuck_whole game q [] 0 (nothing_shown game q (known_to game q [] 0)))

-- a player of whom no log has an entry
module _ (game : Game) (q : ℕ) (hs : List Head) (all : List Accord) (start : AreAtStart game q hs) (open_all : all ≡ replicate game.turns Open) where
  pub start_sound : IsSession game → q < players_of game → length hs ≡ players_of game → IsSound game (record { heads = hs; accords = all })
  start_sound is lt many = record {
    heads = many;
    accords = ap length open_all ∙ length-replicate game.turns Open;
    tracks = λ i h there. (shown_facts game q [] h.stream is lt (start i h there).read).opens;
  }

  pub start_player : IsOfPlayer game (replicate (players_of game) []) q (record { heads = hs; accords = all })
  start_player = record {
    heads = λ i h there. subst (λ (fs : List TurnFrame). IsAtEnd game q fs fs h) (sym (none_shown (players_of game) q i)) (start i h there);
    accords = λ t lt.
        ap (λ (xs : List Accord). slice_get xs t) open_all ∙ same_get game.turns t Open lt
        ∙ sym (ap (λ (ms : List Move). Some (accord_of ms)) (none_given (resolved_at game (replicate (players_of game) []) q t) 0 (length (replicate (players_of game) [])) (none_resolved game (players_of game) q t)));
  }

-- these are the players of logs without entries, in order
pub record IsStarted (game : Game) (q : ℕ) (p : PlayerState) : Type 0 where
  pub sound : IsSound game p
  pub new : IsOfPlayer game (replicate (players_of game) []) q p

abbrev pub AreStarted : Game → List PlayerState → Type 0
AreStarted game ps = (q : ℕ) (p : PlayerState) → slice_get ps q ≡ Some p → IsStarted game q p

pub started_none : (game : Game) → AreStarted game []
started_none game q p e = absurd (none-some p e)

pub started_more : (game : Game) (ps : List PlayerState) (n : ℕ) (r : PlayerState) → length ps ≡ n → AreStarted game ps → IsSound game r → IsOfPlayer game (replicate (players_of game) []) n r →
    AreStarted game (ps ++ r ∷ [])
started_more game ps n r many all sound new q p e = go (slice_get_push ps r q p e)
  where
    go : (slice_get ps q ≡ Some p) ⊎ ((q ≡ length ps) × (r ≡ p)) → IsStarted game q p
    go (inl a) = all q p a
    go (inr b) =
        subst (IsStarted game q) b.1 (record { sound = sound; new = subst (λ (k : ℕ). IsOfPlayer game (replicate (players_of game) []) k r) (sym (b.0 ∙ many)) new })

pub started_sound : (game : Game) (ps : List PlayerState) → length ps ≡ players_of game → AreStarted game ps → AreSound game ps
started_sound game ps many all = record { many = many; each = λ q p there. (all q p there).sound }

pub started_of : (game : Game) (ps : List PlayerState) → AreStarted game ps → IsOf game (replicate (players_of game) []) (record { game = game; players = ps })
started_of game ps all = record { session = refl; many = length-replicate (players_of game) []; each = λ q p there. (all q p there).new }
