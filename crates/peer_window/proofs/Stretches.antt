-- Stretches: what the slots of the first turns show, turn by turn.
use Rattle.std.proofs.Common.{◌≡◌, ℕ, zero, suc, ◌+◌, ◌*◌, ◌<◌, ◌≤◌, List, [], ◌∷◌, ◌++◌, length, length-append, refl, sym, ◌∙◌, ap, arith, inl, inr, Option, Some}
use Rattle.std.specs.Prelude.{slice_get}
use Rattle.std.proofs.lemmas.Bool.{cases_lt}
use Rattle.plain_lemmas.proofs.Options.{some_of}
use Rattle.definitions.specs.declared.world.Move.{Move}
use Rattle.definitions.specs.declared.openings.Digest.{Digest}
use Rattle.definitions.specs.declared.openings.Nonce.{Nonce}
use Rattle.definitions.specs.declared.frames.TurnFrame.{TurnFrame}
use Rattle.definitions.specs.declared.frames.TurnFrame.TheVariants.{Commit, Reveal}
use Rattle.definitions.specs.Logs.{player_of}
use Rattle.definition_laws.proofs.Listing.{slice_get_front, slice_get_last}
use Rattle.peer_window.specs.declared.received.Received.{Received}
use Rattle.peer_window.specs.Slots.{AreSlots, digest_in, digests_to, move_in, moves_to, slot_of, slot}

-- a frame of a commitment's slot is a commitment, and one of a reveal's a reveal
pub is_commitment : (f : TurnFrame) (q t : ℕ) → slot_of f ≡ 2 * t → player_of f ≡ q → (d : Digest) × (f ≡ Commit q t d)
is_commitment (Commit p u d) q t place player =
    let turn : u ≡ t = omega arith in (d, ap (λ (n : ℕ). Commit n u d) player ∙ ap (λ (n : ℕ). Commit q n d) turn)
is_commitment (Reveal p u m n) q t place player = absurd (omega arith)

pub is_reveal : (f : TurnFrame) (q t : ℕ) → slot_of f ≡ 2 * t + 1 → player_of f ≡ q → (m : Move) × (n : Nonce) × (f ≡ Reveal q t m n)
is_reveal (Commit p u d) q t place player = absurd (omega arith)
is_reveal (Reveal p u m n) q t place player =
    let turn : u ≡ t = omega arith in (m, n, ap (λ (x : ℕ). Reveal x u m n) player ∙ ap (λ (x : ℕ). Reveal q x m n) turn)

pub commitment_at : (q t c u : ℕ) (ss : List (Option Received)) → AreSlots q ss c u → t < c → (r : Received) × (d : Digest) × (slot ss (2 * t) ≡ Some r) × (r.frame ≡ Commit q t d)
commitment_at q t c u ss w lt =
    let r = some_of (slot ss (2 * t)) (w.committed t lt) in
    let own = w.own (2 * t) r.0 r.1 in
    let f = is_commitment r.0.frame q t own.0 own.1 in
    (r.0, f.0, r.1, f.1)

pub reveal_at : (q t c u : ℕ) (ss : List (Option Received)) → AreSlots q ss c u → t < u → (r : Received) × (m : Move) × (k : Nonce) × (slot ss (2 * t + 1) ≡ Some r) × (r.frame ≡ Reveal q t m k)
reveal_at q t c u ss w lt =
    let r = some_of (slot ss (2 * t + 1)) (w.revealed t lt) in
    let own = w.own (2 * t + 1) r.0 r.1 in
    let f = is_reveal r.0.frame q t own.0 own.1 in
    (r.0, f.0, f.1, r.1, f.2)

digest_at : (o : Option Received) (r : Received) (q t : ℕ) (d : Digest) → o ≡ Some r → r.frame ≡ Commit q t d → digest_in o ≡ d ∷ []
digest_at o r q t d e f = rw (e, f) refl

move_at : (o : Option Received) (r : Received) (q t : ℕ) (m : Move) (n : Nonce) → o ≡ Some r → r.frame ≡ Reveal q t m n → move_in o ≡ m ∷ []
move_at o r q t m n e f = rw (e, f) refl

-- one digest more, and one move more
pub digests_more : (ss : List (Option Received)) (q t : ℕ) (r : Received) (d : Digest) → slot ss (2 * t) ≡ Some r → r.frame ≡ Commit q t d → digests_to ss (suc t) ≡ digests_to ss t ++ d ∷ []
unfolding digests_to
digests_more ss q t r d e f = ap (λ (ds : List Digest). digests_to ss t ++ ds) (digest_at (slot ss (2 * t)) r q t d e f)

pub moves_more : (ss : List (Option Received)) (q t : ℕ) (r : Received) (m : Move) (n : Nonce) → slot ss (2 * t + 1) ≡ Some r → r.frame ≡ Reveal q t m n → moves_to ss (suc t) ≡ moves_to ss t ++ m ∷ []
unfolding moves_to
moves_more ss q t r m n e f = ap (λ (ms : List Move). moves_to ss t ++ ms) (move_at (slot ss (2 * t + 1)) r q t m n e f)

pub digests_length : (q c u : ℕ) (ss : List (Option Received)) (t : ℕ) → AreSlots q ss c u → t ≤ c → length (digests_to ss t) ≡ t
unfolding digests_to
digests_length q c u ss zero w h = refl
digests_length q c u ss (suc t) w h =
    let ih = digests_length q c u ss t w (omega arith) in
    let f = commitment_at q t c u ss w (omega arith) in
    let l = length-append (digests_to ss t) (f.1 ∷ []) in
    ap length (digests_more ss q t f.0 f.1 f.2 f.3) ∙ (let e : length (digests_to ss t ++ f.1 ∷ []) ≡ suc t = omega arith in e)

pub moves_length : (q c u : ℕ) (ss : List (Option Received)) (t : ℕ) → AreSlots q ss c u → t ≤ u → length (moves_to ss t) ≡ t
unfolding moves_to
moves_length q c u ss zero w h = refl
moves_length q c u ss (suc t) w h =
    let ih = moves_length q c u ss t w (omega arith) in
    let f = reveal_at q t c u ss w (omega arith) in
    let l = length-append (moves_to ss t) (f.1 ∷ []) in
    ap length (moves_more ss q t f.0 f.1 f.2 f.3 f.4) ∙ (let e : length (moves_to ss t ++ f.1 ∷ []) ≡ suc t = omega arith in e)

-- the digest of a turn among those of more turns
pub digest_get : (q c u : ℕ) (ss : List (Option Received)) (k t : ℕ) (r : Received) (d : Digest) → AreSlots q ss c u → k ≤ c → t < k → slot ss (2 * t) ≡ Some r → r.frame ≡ Commit q t d →
    slice_get (digests_to ss k) t ≡ Some d
digest_get q c u ss zero t r d w h lt e f = absurd (omega arith)
digest_get q c u ss (suc k) t r d w h lt e f =
    elim (cases_lt t k) [
      | inl below ↦
          let g = commitment_at q k c u ss w (omega arith) in
          ap (λ (ds : List Digest). slice_get ds t) (digests_more ss q k g.0 g.1 g.2 g.3)
          ∙ slice_get_front (digests_to ss k) (g.1 ∷ []) t d (digest_get q c u ss k t r d w (omega arith) below e f)
      | inr above ↦
          let same : k ≡ t = omega arith in
          let len : t ≡ length (digests_to ss t) = sym (digests_length q c u ss t w (omega arith)) in
          ap (λ (i : ℕ). slice_get (digests_to ss (suc i)) t) same ∙ ap (λ (ds : List Digest). slice_get ds t) (digests_more ss q t r d e f)
          ∙ ap (slice_get (digests_to ss t ++ d ∷ [])) len ∙ slice_get_last (digests_to ss t) d
    ]

pub move_get : (q c u : ℕ) (ss : List (Option Received)) (k t : ℕ) (r : Received) (m : Move) (o : Nonce) → AreSlots q ss c u → k ≤ u → t < k → slot ss (2 * t + 1) ≡ Some r → r.frame ≡ Reveal q t m o →
    slice_get (moves_to ss k) t ≡ Some m
move_get q c u ss zero t r m o w h lt e f = absurd (omega arith)
move_get q c u ss (suc k) t r m o w h lt e f =
    elim (cases_lt t k) [
      | inl below ↦
          let g = reveal_at q k c u ss w (omega arith) in
          ap (λ (ms : List Move). slice_get ms t) (moves_more ss q k g.0 g.1 g.2 g.3 g.4)
          ∙ slice_get_front (moves_to ss k) (g.1 ∷ []) t m (move_get q c u ss k t r m o w (omega arith) below e f)
      | inr above ↦
          let same : k ≡ t = omega arith in
          let len : t ≡ length (moves_to ss t) = sym (moves_length q c u ss t w (omega arith)) in
          ap (λ (i : ℕ). slice_get (moves_to ss (suc i)) t) same ∙ ap (λ (ms : List Move). slice_get ms t) (moves_more ss q t r m o e f)
          ∙ ap (slice_get (moves_to ss t ++ m ∷ [])) len ∙ slice_get_last (moves_to ss t) m
    ]
