-- Clashing: a frame in an empty slot makes a clash with the other frame of its turn, or leads to an illegal reveal.
use Rattle.std.proofs.Common.{◌≡◌, ℕ, ◌+◌, ◌*◌, ◌<◌, ◌≤◌, List, refl, Bool, true, false, sym, ◌∙◌, ap, arith, inl, inr, Option, Some, None}
use Rattle.std.specs.Prelude.{if◌then◌else◌, max, min}
use Rattle.std.specs.Option.{option_or}
use Rattle.std.proofs.lemmas.Bool.{cases_lt, false≢true}
use Rattle.plain_lemmas.proofs.Lists.{some_within}
use Rattle.definitions.specs.declared.findings.Kind.TheVariants.{BadOpening}
use Rattle.definitions.specs.declared.world.Move.{Move}
use Rattle.definitions.specs.declared.world.Track.{Track}
use Rattle.definitions.specs.declared.world.MoveFault.{MoveFault}
use Rattle.definitions.specs.declared.openings.Digest.{Digest}
use Rattle.definitions.specs.declared.openings.Nonce.{Nonce}
use Rattle.definitions.specs.declared.frames.TurnFrame.{TurnFrame}
use Rattle.definitions.specs.declared.frames.TurnFrame.TheVariants.{Commit, Reveal}
use Rattle.definitions.specs.World.{Game}
use Rattle.definitions.specs.Moves.{move_fault}
use Rattle.definitions.specs.Logs.{digest_eq}
use Rattle.definitions.specs.Held.{digest_of}
use Rattle.grid_world.specs.Sessions.{IsSession}
use Rattle.move_rules.specs.Verdicts.{judged}
use Rattle.reveal_check.specs.declared.judging.Verdict.TheVariants as V
use Rattle.reveal_check.specs.Judgements.{by_rules}
use Rattle.peer_window.specs.declared.received.Received.{Received}
use Rattle.definitions.specs.declared.findings.Finding.{Finding}
use Rattle.grid_world.specs.declared.streams.Stream.{Stream}
use Rattle.peer_window.specs.declared.walk.Step.{Step}
use Rattle.peer_window.specs.declared.walk.Step.TheVariants.{Committed, Resolved, Halt, Illegal}
use Rattle.peer_window.specs.Clashes.{clash_in, finding_by, first_clash, same_digest}
use Rattle.peer_window.specs.Steps.{commit_step, illegal_at, illegal_in, judged_step, slot_step, turn_step}
use Rattle.peer_window.specs.Slots.{in_order, slot}
use Rattle.peer_window.specs.Windows.{IsHeld}
use Rattle.peer_window.proofs.Halted.{never_committed, never_resolved}
use Rattle.peer_window.proofs.Pairs.{digest_sym, or_none, range_none}
use Rattle.peer_window.proofs.Reached.{by_commit, by_reveal, commit_next, next_slot, reveal_next, step_revealed}
use Rattle.peer_window.proofs.Stretches.{commitment_at, is_reveal}
use Rattle.peer_window.proofs.Turns.{end_clash, end_here, pair_clash, turn_value}

halts_apart : (game : Game) (track : Track) (m : Move) (c g : Received) (b : Bool) (o : Option MoveFault) → judged_step c g (if b then by_rules (judged game track m o) else V.BadOpening) ≡ Halt → b ≡ false
halts_apart game track m c g false o h = refl
halts_apart game track m c g true None h = absurd (cc)
halts_apart game track m c g true (Some fault) h = absurd (cc)

pub pair_same : (game : Game) (q t : ℕ) (c g : Received) → pair_clash game q t (Some c) (Some g) ≡ None → same_digest game c g ≡ true
pair_same game q t c g h = go (same_digest game c g) h
  where
    go : (b : Bool) → (if b then None else Some (finding_by q t BadOpening (min c.entry g.entry) (max c.entry g.entry))) ≡ None → b ≡ true
    go true e = refl
    go false e = absurd (cc)

some_not : (x : Finding) → Some x ≡ None → ⊥
some_not x h = cc

-- in a window without a clash the next frame's slot is empty
pub next_empty : (game : Game) (q : ℕ) (ss : List (Option Received)) (at : Stream) → IsSession game → IsHeld game q ss at → first_clash game q (in_order ss) ≡ None → slot ss (next_slot game at) ≡ None
unfolding first_clash digest_of
next_empty game q ss at is h clean = elim (cases_lt at.commits (min (at.resolved + game.ahead) game.turns)) [
  | inl lt ↦ ap (slot ss) (commit_next game at lt) ∙ commits lt (slot ss (2 * at.commits)) refl
  | inr ge ↦ ap (slot ss) (reveal_next game at ge) ∙ reveals ge (slot ss (2 * at.resolved + 1)) refl
]
  where
    commits : at.commits < min (at.resolved + game.ahead) game.turns → (o : Option Received) → slot ss (2 * at.commits) ≡ o → slot ss (2 * at.commits) ≡ None
    commits lt None e = e
    commits lt (Some g) e = absurd (never_committed game q ss at is h (by_commit game ss at lt ∙ ap commit_step e))

    nothing : at.resolved < game.turns → option_or (pair_clash game q at.resolved (slot ss (2 * at.resolved)) (slot ss (2 * at.resolved + 1))) (end_clash at.resolved at.resolved (illegal_at game ss at)) ≡ None
    nothing lt = sym (turn_value game q at.resolved ss at is h) ∙ range_none (clash_in game q (in_order ss)) 0 game.turns at.resolved clean (omega arith) (omega arith)

    by_step : min (at.resolved + game.ahead) game.turns ≤ at.commits → (g : Received) (m : Move) (o : Nonce) (c : Received) (d : Digest) → slot ss (2 * at.resolved) ≡ Some c → c.frame ≡ Commit q at.resolved d → at.resolved < game.turns →
        slot ss (2 * at.resolved + 1) ≡ Some g → g.frame ≡ Reveal q at.resolved m o →
        turn_step game ss at ≡ judged_step c g (if digest_eq (digest_of game (Reveal q at.resolved m o)) d then by_rules (judged game at.track m (move_fault game q at.track m)) else V.BadOpening) →
        (s : Step) → turn_step game ss at ≡ s → ⊥
    by_step ge g m o c d e f lt i j is_step Committed s = never_committed game q ss at is h (by_reveal game ss at ge ∙ s)
    by_step ge g m o c d e f lt i j is_step (Resolved track) s = never_resolved game q ss at track is h (by_reveal game ss at ge ∙ s)
    by_step ge g m o c d e f lt i j is_step Halt s =
        let apart = halts_apart game at.track m c g (digest_eq (digest_of game (Reveal q at.resolved m o)) d) (move_fault game q at.track m) (sym is_step ∙ s) in
        let none = (or_none _ _ (nothing lt)).0 in
        let same = pair_same game q at.resolved c g (ap (λ (x : Option Received). pair_clash game q at.resolved x (Some g)) (sym e) ∙ ap (pair_clash game q at.resolved (slot ss (2 * at.resolved))) (sym i) ∙ none) in
        let digests : digest_eq d (digest_of game (Reveal q at.resolved m o)) ≡ true =
        ap (λ (x : TurnFrame). digest_eq (digest_of game x) (digest_of game (Reveal q at.resolved m o))) (sym f) ∙ ap (λ (x : TurnFrame). digest_eq (digest_of game c.frame) (digest_of game x)) (sym j) ∙ same in
        false≢true (sym apart ∙ digest_sym (digest_of game (Reveal q at.resolved m o)) d ∙ digests)
    by_step ge g m o c d e f lt i j is_step (Illegal x) s = some_not x (sym (ap illegal_in s) ∙ sym (end_here at.resolved (illegal_at game ss at)) ∙ (or_none _ _ (nothing lt)).1)

    reveals : min (at.resolved + game.ahead) game.turns ≤ at.commits → (o : Option Received) → slot ss (2 * at.resolved + 1) ≡ o → slot ss (2 * at.resolved + 1) ≡ None
    reveals ge None e = e
    reveals ge (Some g) e =
        let within = some_within ss (2 * at.resolved + 1) g e in
        let places = h.places in
        let one = is.ahead.0 in
        let lt : at.resolved < game.turns = omega arith in
        let own = h.slots.own (2 * at.resolved + 1) g e in
        let f = is_reveal g.frame q at.resolved own.0 own.1 in
        let c = commitment_at q at.resolved at.commits at.resolved ss h.slots (omega arith) in
        let is_step : turn_step game ss at ≡ judged_step c.0 g (if digest_eq (digest_of game (Reveal q at.resolved f.0 f.1)) c.1 then by_rules (judged game at.track f.0 (move_fault game q at.track f.0)) else V.BadOpening) =
        ap (slot_step game at.track (slot ss (2 * at.resolved))) e ∙ step_revealed game at.track c.0 g q at.resolved c.1 f.0 f.1 (slot ss (2 * at.resolved)) c.2 c.3 f.2 in
        absurd (by_step ge g f.0 f.1 c.0 c.1 c.2 c.3 lt e f.2 is_step (turn_step game ss at) refl)
