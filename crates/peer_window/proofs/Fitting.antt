-- Fitting: what the frames in the slots lead to behind those that are there.
use Rattle.std.proofs.Common.{◌≡◌, ℕ, suc, ◌+◌, ◌*◌, ◌<◌, List, [], ◌∷◌, refl, Bool, sym, ◌∙◌, ap, arith, Option, Some, None, ◌≤◌}
use Rattle.std.specs.Prelude.{◌&&◌, if◌then◌else◌, slice_get, min}
use Rattle.std.specs.Option.{option_or}
use Rattle.std.proofs.lemmas.Bool.{eq-eqb, ne_eqb}
use Rattle.definitions.specs.declared.world.Move.{Move}
use Rattle.definitions.specs.declared.openings.Digest.{Digest}
use Rattle.definitions.specs.declared.openings.Nonce.{Nonce}
use Rattle.definitions.specs.declared.frames.TurnFrame.{TurnFrame}
use Rattle.definitions.specs.declared.frames.TurnFrame.TheVariants.{Commit, Reveal}
use Rattle.definitions.specs.World.{Game}
use Rattle.definitions.specs.Moves.{is_legal, track_after}
use Rattle.definitions.specs.Logs.{digest_eq}
use Rattle.definitions.specs.Lists.{first_of}
use Rattle.definitions.specs.Held.{commit_of, digest_of, first_commit, first_opening, next_known, opened, opening_of, with_commit, with_move}
use Rattle.definition_laws.proofs.Knowing.{known_from, next_commit, next_end, next_reveal}
use Rattle.peer_window.specs.declared.received.Received.{Received}
use Rattle.peer_window.specs.Slots.{AreSlots, digests_to, frames_in, in_order, moves_to, shown, slot_of, slot}
use Rattle.peer_window.proofs.Ordered.{first_only, of_slot}
use Rattle.peer_window.proofs.Stretches.{digest_get, digests_length, digests_more, moves_length, moves_more}

pub first_in_frames : {Y : Type 0} (g : TurnFrame → Option Y) (rs : List Received) → first_of g (frames_in rs) ≡ first_of (λ r. g r.frame) rs
first_in_frames g [] = refl
first_in_frames g (r ∷ rs) = ap (option_or (g r.frame)) (first_in_frames g rs)

-- a frame of another slot commits nothing to the turn, and reveals nothing of it
pub commit_elsewhere : (f : TurnFrame) (t p : ℕ) → slot_of f ≡ p → (p ≡ 2 * t → ⊥) → commit_of t f ≡ None
commit_elsewhere (Commit p u d) t n e apart = ap (λ (b : Bool). if b then Some d else None) (ne_eqb u t (λ h. apart (omega arith)))
commit_elsewhere (Reveal p u m k) t n e apart = refl

pub opening_elsewhere : (game : Game) (q : ℕ) (before : List Move) (d : Digest) (f : TurnFrame) (t p : ℕ) → slot_of f ≡ p → (p ≡ 2 * t + 1 → ⊥) → opening_of game q before d t f ≡ None
opening_elsewhere game q before d (Commit p u e) t n at apart = refl
opening_elsewhere game q before d (Reveal p u m k) t n at apart =
    ap (λ (b : Bool). if b && digest_eq (digest_of game (Reveal p u m k)) d && is_legal game q (track_after game q before) m then Some m else None) (ne_eqb u t (λ h. apart (omega arith)))

-- the first commitment of a turn is that in its slot, and so is the reveal
pub commit_slot : (q c u t : ℕ) (ss : List (Option Received)) → AreSlots q ss c u → first_commit (frames_in (in_order ss)) t ≡ of_slot (λ r. commit_of t r.frame) (slot ss (2 * t))
commit_slot q c u t ss w =
    first_in_frames (commit_of t) (in_order ss)
    ∙ first_only (λ r. commit_of t r.frame) ss (2 * t) (λ i r e apart. commit_elsewhere r.frame t i (w.own i r e).0 apart)

pub opening_slot : (game : Game) (q c u t : ℕ) (before : List Move) (d : Digest) (ss : List (Option Received)) → AreSlots q ss c u →
    first_opening game q before d (frames_in (in_order ss)) t ≡ of_slot (λ r. opening_of game q before d t r.frame) (slot ss (2 * t + 1))
opening_slot game q c u t before d ss w =
    first_in_frames (opening_of game q before d t) (in_order ss)
    ∙ first_only (λ r. opening_of game q before d t r.frame) ss (2 * t + 1) (λ i r e apart. opening_elsewhere game q before d r.frame t i (w.own i r e).0 apart)

-- as many turns ahead as players commit: the commitment in its turn's slot
pub next_at_commit : (game : Game) (q c u : ℕ) (ss : List (Option Received)) → AreSlots q ss c u → c < min (u + game.ahead) game.turns →
    next_known game q (frames_in (in_order ss)) (shown ss c u) ≡ with_commit (shown ss c u) (of_slot (λ r. commit_of c r.frame) (slot ss (2 * c)))
next_at_commit game q c u ss w lt =
    let a = digests_length q c u ss c w (omega arith) in
    let b = moves_length q c u ss u w (omega arith) in
    next_commit game q (frames_in (in_order ss)) (shown ss c u) (omega arith)
    ∙ ap (λ (i : ℕ). with_commit (shown ss c u) (first_commit (frames_in (in_order ss)) i)) a
    ∙ ap (with_commit (shown ss c u)) (commit_slot q c u c ss w)

-- after the commitments: the reveal in its turn's slot
pub next_at_reveal : (game : Game) (q c u : ℕ) (ss : List (Option Received)) (r : Received) (d : Digest) → AreSlots q ss c u → min (u + game.ahead) game.turns ≤ c → u < game.turns → u < c →
    slot ss (2 * u) ≡ Some r → r.frame ≡ Commit q u d →
    next_known game q (frames_in (in_order ss)) (shown ss c u) ≡ with_move (shown ss c u) (of_slot (λ r. opening_of game q (moves_to ss u) d u r.frame) (slot ss (2 * u + 1)))
next_at_reveal game q c u ss r d w all lt held s f =
    let a = digests_length q c u ss c w (omega arith) in
    let b = moves_length q c u ss u w (omega arith) in
    let due = digest_get q c u ss c u r d w (omega arith) held s f in
    next_reveal game q (frames_in (in_order ss)) (shown ss c u) (omega arith) (omega arith)
    ∙ ap (λ (i : ℕ). with_move (shown ss c u) (opened game q (moves_to ss u) (frames_in (in_order ss)) i (slice_get (digests_to ss c) i))) b
    ∙ ap (λ (o : Option Digest). with_move (shown ss c u) (opened game q (moves_to ss u) (frames_in (in_order ss)) u o)) due
    ∙ ap (with_move (shown ss c u)) (opening_slot game q c u u (moves_to ss u) d ss w)

-- behind the last turn there is nothing
pub next_at_end : (game : Game) (q c u : ℕ) (ss : List (Option Received)) → AreSlots q ss c u → min (u + game.ahead) game.turns ≤ c → game.turns ≤ u →
    next_known game q (frames_in (in_order ss)) (shown ss c u) ≡ shown ss c u
next_at_end game q c u ss w all end =
    let a = digests_length q c u ss c w (omega arith) in
    let b = moves_length q c u ss u w (omega arith) in
    next_end game q (frames_in (in_order ss)) (shown ss c u) (omega arith) (omega arith)

-- with the commitment, and with the move
pub with_commit_more : (q c u : ℕ) (ss : List (Option Received)) (r : Received) (d : Digest) → slot ss (2 * c) ≡ Some r → r.frame ≡ Commit q c d →
    with_commit (shown ss c u) (of_slot (λ r. commit_of c r.frame) (slot ss (2 * c))) ≡ shown ss (suc c) u
with_commit_more q c u ss r d e f =
    let some : of_slot (λ r. commit_of c r.frame) (slot ss (2 * c)) ≡ Some d = rw (e, f, eq-eqb c c refl) refl in
    ap (with_commit (shown ss c u)) some ∙ known_from _ _ (sym (digests_more ss q c r d e f)) refl

pub opening_here : (game : Game) (q t : ℕ) (before : List Move) (d : Digest) (ss : List (Option Received)) (r : Received) (m : Move) (k : Nonce) → slot ss (2 * t + 1) ≡ Some r → r.frame ≡ Reveal q t m k →
    of_slot (λ r. opening_of game q before d t r.frame) (slot ss (2 * t + 1)) ≡
    (if digest_eq (digest_of game (Reveal q t m k)) d && is_legal game q (track_after game q before) m then Some m else None)
opening_here game q t before d ss r m k e f =
    ap (of_slot (λ r. opening_of game q before d t r.frame)) e ∙ ap (opening_of game q before d t) f
    ∙ ap (λ (b : Bool). if b && digest_eq (digest_of game (Reveal q t m k)) d && is_legal game q (track_after game q before) m then Some m else None) (eq-eqb t t refl)

pub with_move_more : (q c u : ℕ) (ss : List (Option Received)) (r : Received) (m : Move) (k : Nonce) → slot ss (2 * u + 1) ≡ Some r → r.frame ≡ Reveal q u m k →
    with_move (shown ss c u) (Some m) ≡ shown ss c (suc u)
with_move_more q c u ss r m k e f = known_from _ _ refl (sym (moves_more ss q u r m k e f))
