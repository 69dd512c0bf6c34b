-- Lookups: what is known, read from the slots.
use Rattle.std.proofs.Common.{◌≡◌, ℕ, ◌+◌, ◌*◌, ◌<◌, ◌≤◌, List, length, sym, ◌∙◌, ap, arith, Option, Some, None}
use Rattle.std.proofs.lemmas.Option.{slice_get_past}
use Rattle.std.specs.Prelude.{slice_get}
use Rattle.definitions.specs.declared.world.Move.{Move}
use Rattle.definitions.specs.declared.openings.Digest.{Digest}
use Rattle.definitions.specs.declared.openings.Nonce.{Nonce}
use Rattle.definitions.specs.declared.frames.TurnFrame.TheVariants.{Commit, Reveal}
use Rattle.definitions.specs.Held.{Known, places_in}
use Rattle.peer_window.specs.declared.received.Received.{Received}
use Rattle.peer_window.specs.Slots.{AreSlots, slot_of, shown, slot}
use Rattle.peer_window.proofs.Stretches.{digest_get, digests_length, is_commitment, is_reveal, move_get, moves_length}

pub count_digests : (q c u : ℕ) (ss : List (Option Received)) (k : Known) → k ≡ shown ss c u → AreSlots q ss c u → c ≡ length k.digests
count_digests q c u ss k e w = sym (ap (λ (x : Known). length x.digests) e ∙ digests_length q c u ss c w (omega arith))

pub count_moves : (q c u : ℕ) (ss : List (Option Received)) (k : Known) → k ≡ shown ss c u → AreSlots q ss c u → u ≡ length k.moves
count_moves q c u ss k e w = sym (ap (λ (x : Known). length x.moves) e ∙ moves_length q c u ss u w (omega arith))

pub count_places : (q c u : ℕ) (ss : List (Option Received)) (k : Known) → k ≡ shown ss c u → AreSlots q ss c u → c + u ≡ places_in k
count_places q c u ss k e w = let a = count_digests q c u ss k e w in let b = count_moves q c u ss k e w in omega arith

pub no_digest : (q c u t : ℕ) (ss : List (Option Received)) (k : Known) → k ≡ shown ss c u → AreSlots q ss c u → c ≤ t → None ≡ slice_get k.digests t
no_digest q c u t ss k e w past = let a = count_digests q c u ss k e w in sym (slice_get_past k.digests t (omega arith))

pub no_move : (q c u t : ℕ) (ss : List (Option Received)) (k : Known) → k ≡ shown ss c u → AreSlots q ss c u → u ≤ t → None ≡ slice_get k.moves t
no_move q c u t ss k e w past = let a = count_moves q c u ss k e w in sym (slice_get_past k.moves t (omega arith))

pub the_digest : (q c u t at p v : ℕ) (ss : List (Option Received)) (k : Known) (r : Received) (d : Digest) → k ≡ shown ss c u → AreSlots q ss c u → at ≡ 2 * t → t < c →
    Some r ≡ slot ss at → r.frame ≡ Commit p v d → Some d ≡ slice_get k.digests t
the_digest q c u t at p v ss k r d e w is below s f =
    let here : slot ss (2 * t) ≡ Some r = ap (slot ss) (sym is) ∙ sym s in
    let own = w.own (2 * t) r here in
    let g = is_commitment r.frame q t own.0 own.1 in
    same g.0 (sym f ∙ g.1) ∙ sym (ap (λ (x : Known). slice_get x.digests t) e ∙ digest_get q c u ss c t r g.0 w (omega arith) below here g.1)
  where
    same : (b : Digest) → Commit p v d ≡ Commit q t b → Some d ≡ Some b
    same b h = cc

pub the_move : (q c u t at p v : ℕ) (ss : List (Option Received)) (k : Known) (r : Received) (m : Move) (o : Nonce) → k ≡ shown ss c u → AreSlots q ss c u → at ≡ 2 * t + 1 → t < u →
    Some r ≡ slot ss at → r.frame ≡ Reveal p v m o → Some m ≡ slice_get k.moves t
the_move q c u t at p v ss k r m o e w is below s f =
    let here : slot ss (2 * t + 1) ≡ Some r = ap (slot ss) (sym is) ∙ sym s in
    let own = w.own (2 * t + 1) r here in
    let g = is_reveal r.frame q t own.0 own.1 in
    same g.0 g.1 (sym f ∙ g.2) ∙ sym (ap (λ (x : Known). slice_get x.moves t) e ∙ move_get q c u ss u t r g.0 g.1 w (omega arith) below here g.2)
  where
    same : (l : Move) (n : Nonce) → Reveal p v m o ≡ Reveal q t l n → Some m ≡ Some l
    same l n h = cc

-- no reveal stands in a commitment's slot, and no commitment in a reveal's
pub never_reveal : {X : Type 0} (q c u t at p v : ℕ) (ss : List (Option Received)) (r : Received) (m : Move) (o : Nonce) → AreSlots q ss c u → at ≡ 2 * t → Some r ≡ slot ss at → r.frame ≡ Reveal p v m o → X
never_reveal q c u t at p v ss r m o w is s f =
    let own = (w.own at r (sym s)).0 in let place : slot_of r.frame ≡ 2 * v + 1 = ap slot_of f in absurd (omega arith)

pub never_commitment : {X : Type 0} (q c u t at p v : ℕ) (ss : List (Option Received)) (r : Received) (d : Digest) → AreSlots q ss c u → at ≡ 2 * t + 1 → Some r ≡ slot ss at → r.frame ≡ Commit p v d → X
never_commitment q c u t at p v ss r d w is s f =
    let own = (w.own at r (sym s)).0 in let place : slot_of r.frame ≡ 2 * v = ap slot_of f in absurd (omega arith)
