-- Judging: which reveal in the slots is an illegal one.
use Rattle.std.proofs.Common.{◌≡◌, ℕ, zero, suc, ◌+◌, ◌*◌, ◌<◌, List, [], ◌∷◌, length, refl, Bool, true, false, sym, ◌∙◌, ap, arith, Option, Some, None, take}
use Rattle.std.specs.Prelude.{not, ◌&&◌, if◌then◌else◌, is_none, nat_le, slice_get}
use Rattle.std.proofs.lemmas.Bool.{and_parts, le-leb, lt-leb}
use Rattle.std.proofs.lemmas.List.{take_all}
use Rattle.definitions.specs.declared.world.Move.{Move}
use Rattle.definitions.specs.declared.world.Track.{Track}
use Rattle.definitions.specs.declared.world.MoveFault.{MoveFault}
use Rattle.definitions.specs.declared.openings.Digest.{Digest}
use Rattle.definitions.specs.declared.openings.Nonce.{Nonce}
use Rattle.definitions.specs.declared.frames.TurnFrame.TheVariants.{Commit, Reveal}
use Rattle.definitions.specs.World.{Game}
use Rattle.definitions.specs.Moves.{are_legal_from, is_legal, move_fault, next_track, start_track, track_after, track_from}
use Rattle.definitions.specs.Logs.{digest_eq}
use Rattle.definitions.specs.Held.{Known, digest_of, known_to}
use Rattle.definitions.specs.Findings.{is_illegal_at, opens}
use Rattle.definition_laws.proofs.Tracks.{AreKnownLegal, known_to_legal}
use Rattle.move_rules.specs.Verdicts.{judged}
use Rattle.reveal_check.specs.declared.judging.Verdict.TheVariants as V
use Rattle.reveal_check.specs.Judgements.{by_rules}
use Rattle.peer_window.specs.declared.received.Received.{Received}
use Rattle.grid_world.specs.declared.streams.Stream.{Stream}
use Rattle.peer_window.specs.Clashes.{illegal_clash}
use Rattle.peer_window.specs.Steps.{IsThere, illegal_at, illegal_in, judged_step, slot_step, turn_step}
use Rattle.peer_window.specs.Slots.{AreSlots, digests_to, frames_in, in_order, moves_to, shown, slot}
use Rattle.peer_window.proofs.Reached.{step_revealed}
use Rattle.peer_window.proofs.Stretches.{digest_get, move_get, moves_length}

-- each of these moves is legal after those before it
legal_at : (game : Game) (q t : ℕ) (track : Track) (ms : List Move) (m : Move) → are_legal_from game q track ms ≡ true → slice_get ms t ≡ Some m → is_legal game q (track_from game track (take t ms)) m ≡ true
legal_at game q t track [] m h e = absurd (let none : None ≡ Some m = e in cc)
legal_at game q zero track (x ∷ ms) m h e = let same : x ≡ m = cc in ap (is_legal game q track) (sym same) ∙ (and_parts _ _ h).0
legal_at game q (suc t) track (x ∷ ms) m h e = legal_at game q t (next_track game track x) ms m (and_parts _ _ h).1 e

never : (a : Bool) → (a && false) ≡ false
never true = refl
never false = refl

-- a reveal of a turn that is resolved is the legal one
pub resolved_legal : (game : Game) (q c u t : ℕ) (ss : List (Option Received)) (g : Received) (m : Move) (o : Nonce) → AreSlots q ss c u → known_to game q (frames_in (in_order ss)) (2 * game.turns) ≡ shown ss c u →
    t < u → slot ss (2 * t + 1) ≡ Some g → g.frame ≡ Reveal q t m o → is_illegal_at game q t (shown ss c u) g.frame ≡ false
unfolding AreKnownLegal
resolved_legal game q c u t ss g m o w known lt e f =
    let legal : are_legal_from game q (start_track game q) (moves_to ss u) ≡ true =
    ap (λ (k : Known). are_legal_from game q (start_track game q) k.moves) (sym known) ∙ known_to_legal game q (frames_in (in_order ss)) (2 * game.turns) in
    let at = legal_at game q t (start_track game q) (moves_to ss u) m legal (move_get q c u ss u t g m o w (omega arith) lt e f) in
    ap (is_illegal_at game q t (shown ss c u)) f
    ∙ ap (λ (b : Bool). nat_le t (length (moves_to ss u)) && opens game (Reveal q t m o) (slice_get (digests_to ss c) t) && not b) at
    ∙ never _

-- a reveal of a later turn is not judged yet
pub later_unjudged : (game : Game) (q c u t : ℕ) (ss : List (Option Received)) (g : Received) (m : Move) (o : Nonce) → AreSlots q ss c u → u < t → g.frame ≡ Reveal q t m o →
    is_illegal_at game q t (shown ss c u) g.frame ≡ false
later_unjudged game q c u t ss g m o w lt f =
    let len = moves_length q c u ss u w (omega arith) in
    ap (is_illegal_at game q t (shown ss c u)) f
    ∙ ap (λ (b : Bool). b && opens game (Reveal q t m o) (slice_get (digests_to ss c) t) && not (is_legal game q (track_after game q (take t (moves_to ss u))) m)) (lt-leb t (length (moves_to ss u)) (omega arith))

clash_if : (game : Game) (track : Track) (m : Move) (c g : Received) (b : Bool) (o : Option MoveFault) →
    illegal_in (judged_step c g (if b then by_rules (judged game track m o) else V.BadOpening)) ≡ (if b && not (is_none o) then Some (illegal_clash c g) else None)
clash_if game track m c g false o = refl
clash_if game track m c g true (Some fault) = refl
clash_if game track m c g true None = refl

-- the reveal of the first turn that isn't resolved, where its commitment is held
pub illegal_here : (game : Game) (q t : ℕ) (ss : List (Option Received)) (at : Stream) (c g : Received) (d : Digest) (m : Move) (o : Nonce) → AreSlots q ss at.commits at.resolved → IsThere game q ss at →
    t ≡ at.resolved → t < at.commits → slot ss (2 * t) ≡ Some c → c.frame ≡ Commit q t d → slot ss (2 * t + 1) ≡ Some g → g.frame ≡ Reveal q t m o →
    (if is_illegal_at game q t (shown ss at.commits at.resolved) g.frame then Some (illegal_clash c g) else None) ≡ illegal_at game ss at
unfolding is_legal
illegal_here game q t ss at c g d m o w stream n held e f i j =
    let len = moves_length q at.commits at.resolved ss at.resolved w (omega arith) in
    let step : turn_step game ss at ≡ judged_step c g (if digest_eq (digest_of game (Reveal q t m o)) d then by_rules (judged game at.track m (move_fault game q at.track m)) else V.BadOpening) =
    ap (λ (v : ℕ). slot_step game at.track (slot ss (2 * v)) (slot ss (2 * v + 1))) (sym n)
    ∙ ap (slot_step game at.track (slot ss (2 * t))) i ∙ step_revealed game at.track c g q t d m o (slot ss (2 * t)) e f j in
    let due = digest_get q at.commits at.resolved ss at.commits t c d w (omega arith) held e f in
    let illegal : is_illegal_at game q t (shown ss at.commits at.resolved) g.frame ≡ (digest_eq (digest_of game (Reveal q t m o)) d && not (is_none (move_fault game q at.track m))) =
    ap (is_illegal_at game q t (shown ss at.commits at.resolved)) j
    ∙ ap (λ (b : Bool). b && opens game (Reveal q t m o) (slice_get (digests_to ss at.commits) t) && not (is_legal game q (track_after game q (take t (moves_to ss at.resolved))) m)) (le-leb t (length (moves_to ss at.resolved)) (omega arith))
    ∙ ap (λ (y : Option Digest). opens game (Reveal q t m o) y && not (is_legal game q (track_after game q (take t (moves_to ss at.resolved))) m)) due
    ∙ ap (λ (ms : List Move). digest_eq (digest_of game (Reveal q t m o)) d && not (is_none (move_fault game q (track_after game q ms) m))) (take_all t (moves_to ss at.resolved) (omega arith))
    ∙ ap (λ (y : Track). digest_eq (digest_of game (Reveal q t m o)) d && not (is_none (move_fault game q y m))) (sym stream.track) in
    ap (λ (b : Bool). if b then Some (illegal_clash c g) else None) illegal
    ∙ sym (ap illegal_in step ∙ clash_if game at.track m c g (digest_eq (digest_of game (Reveal q t m o)) d) (move_fault game q at.track m))
