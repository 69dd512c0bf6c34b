-- Reached: a step of a walk over the slots is a frame more of what is known, and where it ends nothing more is known.
use Rattle.std.proofs.Common.{◌≡◌, ℕ, suc, ◌+◌, ◌*◌, ◌<◌, ◌≤◌, List, [], ◌∷◌, ◌++◌, length, refl, Bool, true, false, sym, ◌∙◌, ap, arith, inl, inr, Option, Some, None}
use Rattle.std.specs.Prelude.{◌&&◌, if◌then◌else◌, is_none, is_some, min}
use Rattle.std.proofs.lemmas.Bool.{cases_lt, cond-true, cond-false, false≢true, lt-ltb, le-ltb}
use Rattle.plain_lemmas.proofs.Lists.{some_within}
use Rattle.definitions.specs.declared.world.Move.{Move}
use Rattle.definitions.specs.declared.world.Track.{Track}
use Rattle.definitions.specs.declared.world.MoveFault.{MoveFault}
use Rattle.definitions.specs.declared.openings.Digest.{Digest}
use Rattle.definitions.specs.declared.openings.Nonce.{Nonce}
use Rattle.definitions.specs.declared.frames.TurnFrame.{TurnFrame}
use Rattle.definitions.specs.declared.frames.TurnFrame.TheVariants.{Commit, Reveal}
use Rattle.definitions.specs.World.{Game, is_open, players_of}
use Rattle.definitions.specs.Moves.{is_legal, move_fault, next_track, start_track, track_after}
use Rattle.definitions.specs.Logs.{digest_eq, player_of}
use Rattle.definitions.specs.Held.{Known, digest_of, known_to, next_known, commit_of, opening_of, with_commit, with_move}
use Rattle.grid_world.specs.Sessions.{IsSession}
use Rattle.move_rules.specs.Verdicts.{judged}
use Rattle.grid_world.proofs.Facts.{seat_open}
use Rattle.definition_laws.proofs.Tracks.{known_to_open, track_from_append}
use Rattle.reveal_check.specs.declared.judging.Verdict.TheVariants as V
use Rattle.reveal_check.specs.Judgements.{by_rules}
use Rattle.peer_window.specs.declared.received.Received.{Received}
use Rattle.grid_world.specs.declared.streams.Stream.{Stream}
use Rattle.peer_window.specs.declared.walk.Step.TheVariants.{Committed, Resolved, Halt, Illegal}
use Rattle.peer_window.specs.Clashes.{illegal_clash}
use Rattle.peer_window.specs.Steps.{IsThere, commit_step, frame_step, is_commit_next, judged_step, reveal_step, slot_step, step_from, turn_step, is_stop}
use Rattle.peer_window.specs.Slots.{AreSlots, frames_in, in_order, moves_to, shown, slot}
use Rattle.peer_window.proofs.Ordered.{of_slot}
use Rattle.peer_window.proofs.Stretches.{commitment_at, is_commitment, is_reveal}
use Rattle.peer_window.proofs.Fitting.{next_at_commit, next_at_end, next_at_reveal, opening_here, with_commit_more, with_move_more}
use Rattle.definitions.specs.declared.openings.Opening.{Opening}
use Rattle.reveal_check.specs.declared.judging.Verdict.{Verdict}

-- the frame that a slot holds is its player's
pub own_player : (q c u p players : ℕ) (ss : List (Option Received)) (r : Received) → AreSlots q ss c u → slot ss p ≡ Some r → q < players → player_of r.frame < players
own_player q c u p players ss r w e lt = let own = (w.own p r e).1 in omega arith

-- where a stream leads is open
pub stream_open : (game : Game) (q : ℕ) (ss : List (Option Received)) (at : Stream) → IsSession game → q < players_of game → IsThere game q ss at → is_open game.grid at.track.at ≡ true
stream_open game q ss at is lt w =
    ap (λ (t : Track). is_open game.grid t.at) (w.track ∙ ap (λ (k : Known). track_after game q k.moves) (sym w.known))
    ∙ known_to_open game q (at.commits + at.resolved) (frames_in (in_order ss)) (seat_open game q is lt)

-- a step on over a reveal: it opens the digest, and is legal
pub record Goes (game : Game) (track : Track) (m : Move) (after : Track) (b : Bool) (o : Option MoveFault) : Type 0 where
  pub opens : b ≡ true
  pub legal : o ≡ None
  pub leads : after ≡ next_track game track m

resolved_same : (a b : Track) → Resolved a ≡ Resolved b → a ≡ b
resolved_same a b h = cc

judged_on : (game : Game) (track after : Track) (m : Move) (a r : Received) (b : Bool) (o : Option MoveFault) →
    judged_step a r (if b then by_rules (judged game track m o) else V.BadOpening) ≡ Resolved after → Goes game track m after b o
judged_on game track after m a r false o h = absurd (let e : Halt ≡ Resolved after = h in cc)
judged_on game track after m a r true (Some fault) h = absurd (let e : Illegal (illegal_clash a r) ≡ Resolved after = h in cc)
judged_on game track after m a r true None h = record { opens = refl; legal = refl; leads = sym (resolved_same _ _ h) }

judged_stop : (game : Game) (track : Track) (m : Move) (a r : Received) (b : Bool) (o : Option MoveFault) →
    is_stop (judged_step a r (if b then by_rules (judged game track m o) else V.BadOpening)) ≡ true → (b && is_none o) ≡ false
judged_stop game track m a r false o h = refl
judged_stop game track m a r true (Some fault) h = refl
judged_stop game track m a r true None h = absurd (false≢true h)

-- what a step over a reveal of this turn says, by the commitment before it
pub step_revealed : (game : Game) (track : Track) (c r : Received) (q t : ℕ) (d : Digest) (m : Move) (k : Nonce) (before : Option Received) → before ≡ Some c → c.frame ≡ Commit q t d → r.frame ≡ Reveal q t m k →
    slot_step game track before (Some r) ≡ judged_step c r (if digest_eq (digest_of game (Reveal q t m k)) d then by_rules (judged game track m (move_fault game q track m)) else V.BadOpening)
unfolding digest_of
step_revealed game track c r q t d m k before e f g =
    ap (λ (o : Option Received). frame_step game track o r r.frame) e ∙ ap (frame_step game track (Some c) r) g
    ∙ ap (λ (x : TurnFrame). reveal_step game track (Some (record { entry = c.entry; frame = x })) r (record { player = q; turn = t; mv = m; nonce = k })) f

-- a turn more is committed, and a turn more resolved
abbrev pub committed : Stream → Stream
committed at = record { commits = at.commits + 1; resolved = at.resolved; track = at.track }

abbrev pub resolved : Stream → Track → Stream
resolved at track = record { commits = at.commits; resolved = at.resolved + 1; track = track }

known_further : (game : Game) (q n : ℕ) (fs : List TurnFrame) (k l : Known) → known_to game q fs n ≡ k → next_known game q fs k ≡ l → known_to game q fs (n + 1) ≡ l
unfolding known_to
known_further game q n fs k l e f =
    let more : n + 1 ≡ suc n = omega arith in ap (known_to game q fs) more ∙ ap (next_known game q fs) e ∙ f

track_more : (game : Game) (q : ℕ) (ms : List Move) (m : Move) → track_after game q (ms ++ m ∷ []) ≡ next_track game (track_after game q ms) m
track_more game q ms m = track_from_append game (start_track game q) ms (m ∷ [])

-- by whether a commitment is next
pub by_commit : (game : Game) (ss : List (Option Received)) (at : Stream) → at.commits < min (at.resolved + game.ahead) game.turns → step_from game ss at ≡ commit_step (slot ss (2 * at.commits))
by_commit game ss at lt = cond-true (is_commit_next game at) _ _ (lt-ltb _ _ lt)

pub by_reveal : (game : Game) (ss : List (Option Received)) (at : Stream) → min (at.resolved + game.ahead) game.turns ≤ at.commits → step_from game ss at ≡ turn_step game ss at
by_reveal game ss at le = cond-false (is_commit_next game at) _ _ (le-ltb _ _ le)

-- the slot of the next frame
abbrev pub next_slot : Game → Stream → ℕ
next_slot game at = if is_commit_next game at then 2 * at.commits else 2 * at.resolved + 1

pub commit_next : (game : Game) (at : Stream) → at.commits < min (at.resolved + game.ahead) game.turns → next_slot game at ≡ 2 * at.commits
commit_next game at lt = cond-true (is_commit_next game at) _ _ (lt-ltb _ _ lt)

pub reveal_next : (game : Game) (at : Stream) → min (at.resolved + game.ahead) game.turns ≤ at.commits → next_slot game at ≡ 2 * at.resolved + 1
reveal_next game at le = cond-false (is_commit_next game at) _ _ (le-ltb _ _ le)

-- a step over a commitment is none over a reveal
never_resolved : (o : Option Received) (track : Track) → commit_step o ≡ Resolved track → ⊥
never_resolved None track h = cc
never_resolved (Some r) track h = cc

judged_never : (a b : Received) (v : Verdict) → judged_step a b v ≡ Committed → ⊥
judged_never a b (V.Good track) h = cc
judged_never a b V.BadOpening h = cc
judged_never a b (V.Illegal fault) h = cc

revealed_never : (game : Game) (track : Track) (before : Option Received) (r : Received) (o : Opening) → reveal_step game track before r o ≡ Committed → ⊥
revealed_never game track None r o h = cc
revealed_never game track (Some a) r o h = judged_never a r _ h

framed_never : (game : Game) (track : Track) (before : Option Received) (r : Received) (f : TurnFrame) → frame_step game track before r f ≡ Committed → ⊥
framed_never game track before r (Commit p t d) h = cc
framed_never game track before r (Reveal p t m n) h = revealed_never game track before r _ h

never_committed : (game : Game) (track : Track) (before o : Option Received) → slot_step game track before o ≡ Committed → ⊥
never_committed game track before None h = cc
never_committed game track before (Some r) h = framed_never game track before r r.frame h

-- a step over a commitment
pub committed_next : (game : Game) (q : ℕ) (ss : List (Option Received)) (at : Stream) → AreSlots q ss at.commits at.resolved → step_from game ss at ≡ Committed →
    (at.commits < min (at.resolved + game.ahead) game.turns) × (r : Received) × (d : Digest) × (slot ss (2 * at.commits) ≡ Some r) × (r.frame ≡ Commit q at.commits d)
committed_next game q ss at w h = elim (cases_lt at.commits (min (at.resolved + game.ahead) game.turns)) [
  | inl lt ↦ let f = found (slot ss (2 * at.commits)) refl (sym (by_commit game ss at lt) ∙ h) in (lt, f.0, f.1, f.2, f.3)
  | inr ge ↦ absurd (never_committed game at.track _ _ (sym (by_reveal game ss at ge) ∙ h))
]
  where
    found : (o : Option Received) → slot ss (2 * at.commits) ≡ o → commit_step o ≡ Committed → (r : Received) × (d : Digest) × (slot ss (2 * at.commits) ≡ Some r) × (r.frame ≡ Commit q at.commits d)
    found None e g = absurd (let no : Halt ≡ Committed = g in cc)
    found (Some r) e g =
        let own = w.own (2 * at.commits) r e in
        let f = is_commitment r.frame q at.commits own.0 own.1 in
        (r, f.0, e, f.1)

pub step_committed : (game : Game) (q : ℕ) (ss : List (Option Received)) (at : Stream) → AreSlots q ss at.commits at.resolved → IsThere game q ss at → step_from game ss at ≡ Committed → IsThere game q ss (committed at)
step_committed game q ss at w stream h =
    let c = committed_next game q ss at w h in
    let one : suc at.commits ≡ at.commits + 1 = omega arith in
    let places : at.commits + at.resolved + 1 ≡ at.commits + 1 + at.resolved = omega arith in
    let more = next_at_commit game q at.commits at.resolved ss w c.0 ∙ with_commit_more q at.commits at.resolved ss c.1 c.2 c.3 c.4 ∙ ap (λ (n : ℕ). shown ss n at.resolved) one in
    record {
      known = ap (known_to game q (frames_in (in_order ss))) (sym places) ∙ known_further game q (at.commits + at.resolved) (frames_in (in_order ss)) (shown ss at.commits at.resolved) _ stream.known more;
      track = stream.track;
    }

-- a step over a reveal: its commitment, the reveal, and what the judgement says
pub record IsResolving (game : Game) (q : ℕ) (ss : List (Option Received)) (at : Stream) (track : Track) : Type 0 where
  pub all : min (at.resolved + game.ahead) game.turns ≤ at.commits
  pub within : at.resolved < game.turns
  pub commitment : Received
  pub digest : Digest
  pub commits : slot ss (2 * at.resolved) ≡ Some commitment
  pub commits_frame : commitment.frame ≡ Commit q at.resolved digest
  pub reveal : Received
  pub mv : Move
  pub nonce : Nonce
  pub reveals : slot ss (2 * at.resolved + 1) ≡ Some reveal
  pub reveals_frame : reveal.frame ≡ Reveal q at.resolved mv nonce
  pub goes : Goes game at.track mv track (digest_eq (digest_of game (Reveal q at.resolved mv nonce)) digest) (move_fault game q at.track mv)

pub step_resolving : (game : Game) (q : ℕ) (ss : List (Option Received)) (at : Stream) (track : Track) → IsSession game → length ss ≡ 2 * game.turns → AreSlots q ss at.commits at.resolved → step_from game ss at ≡ Resolved track → IsResolving game q ss at track
step_resolving game q ss at track is len w h = elim (cases_lt at.commits (min (at.resolved + game.ahead) game.turns)) [
  | inl lt ↦ absurd (never_resolved (slot ss (2 * at.commits)) track (sym (by_commit game ss at lt) ∙ h))
  | inr ge ↦ found ge (slot ss (2 * at.resolved + 1)) refl (sym (by_reveal game ss at ge) ∙ h)
]
  where
    framed : min (at.resolved + game.ahead) game.turns ≤ at.commits → (r : Received) → slot ss (2 * at.resolved + 1) ≡ Some r → (m : Move) (k : Nonce) → r.frame ≡ Reveal q at.resolved m k →
        slot_step game at.track (slot ss (2 * at.resolved)) (Some r) ≡ Resolved track → IsResolving game q ss at track
    framed ge r e m k f g =
        let within = some_within ss (2 * at.resolved + 1) r e in
        let one = is.ahead.0 in
        let lt : at.resolved < game.turns = omega arith in
        let c = commitment_at q at.resolved at.commits at.resolved ss w (omega arith) in
        record {
          all = ge;
          within = lt;
          commitment = c.0;
          digest = c.1;
          commits = c.2;
          commits_frame = c.3;
          reveal = r;
          mv = m;
          nonce = k;
          reveals = e;
          reveals_frame = f;
          goes = judged_on game at.track track m c.0 r _ (move_fault game q at.track m) (sym (step_revealed game at.track c.0 r q at.resolved c.1 m k (slot ss (2 * at.resolved)) c.2 c.3 f) ∙ g);
        }

    found : min (at.resolved + game.ahead) game.turns ≤ at.commits → (o : Option Received) → slot ss (2 * at.resolved + 1) ≡ o → slot_step game at.track (slot ss (2 * at.resolved)) o ≡ Resolved track → IsResolving game q ss at track
    found ge None e g = absurd (let no : Halt ≡ Resolved track = g in cc)
    found ge (Some r) e g =
        let own = w.own (2 * at.resolved + 1) r e in
        let f = is_reveal r.frame q at.resolved own.0 own.1 in
        framed ge r e f.0 f.1 f.2 g

pub step_resolved : (game : Game) (q : ℕ) (ss : List (Option Received)) (at : Stream) (track : Track) → IsSession game → length ss ≡ 2 * game.turns → AreSlots q ss at.commits at.resolved → IsThere game q ss at → step_from game ss at ≡ Resolved track →
    IsThere game q ss (resolved at track)
unfolding is_legal
step_resolved game q ss at track is len w stream h =
    let s = step_resolving game q ss at track is len w h in
    let goes = s.goes in
    let m : Move = s.mv in
    let all = s.all in
    let within = s.within in
    let ahead = is.ahead.0 in
    let tracked : at.track ≡ track_after game q (moves_to ss at.resolved) = stream.track in
    let opening = opening_here game q at.resolved (moves_to ss at.resolved) s.digest ss s.reveal m s.nonce s.reveals s.reveals_frame in
    let legal : is_none (move_fault game q (track_after game q (moves_to ss at.resolved)) m) ≡ true = ap (λ (x : Track). is_none (move_fault game q x m)) (sym tracked) ∙ ap is_none goes.legal in
    let some : (if digest_eq (digest_of game (Reveal q at.resolved m s.nonce)) s.digest && is_none (move_fault game q (track_after game q (moves_to ss at.resolved)) m) then Some m else None) ≡ Some m =
    ap (λ (b : Bool). if b && is_none (move_fault game q (track_after game q (moves_to ss at.resolved)) m) then Some m else None) goes.opens ∙ ap (λ (b : Bool). if b then Some m else None) legal in
    let one : suc at.resolved ≡ at.resolved + 1 = omega arith in
    let moved = with_move_more q at.commits at.resolved ss s.reveal m s.nonce s.reveals s.reveals_frame ∙ ap (λ (n : ℕ). shown ss at.commits n) one in
    let places : at.commits + at.resolved + 1 ≡ at.commits + (at.resolved + 1) = omega arith in
    let more = next_at_reveal game q at.commits at.resolved ss s.commitment s.digest w all within (omega arith) s.commits s.commits_frame ∙ ap (with_move (shown ss at.commits at.resolved)) (opening ∙ some) ∙ moved in
    record {
      known = ap (known_to game q (frames_in (in_order ss))) (sym places) ∙ known_further game q (at.commits + at.resolved) (frames_in (in_order ss)) (shown ss at.commits at.resolved) _ stream.known more;
      track = goes.leads ∙ ap (λ (x : Track). next_track game x m) tracked ∙ sym (track_more game q (moves_to ss at.resolved) m) ∙ ap (λ (x : Known). track_after game q x.moves) moved;
    }

-- where the walk ends, nothing more is known
pub step_stop : (game : Game) (q : ℕ) (ss : List (Option Received)) (at : Stream) → IsSession game → length ss ≡ 2 * game.turns → AreSlots q ss at.commits at.resolved → IsThere game q ss at →
    is_stop (step_from game ss at) ≡ true → next_known game q (frames_in (in_order ss)) (shown ss at.commits at.resolved) ≡ shown ss at.commits at.resolved
unfolding is_legal
step_stop game q ss at is len w stream h = elim (cases_lt at.commits (min (at.resolved + game.ahead) game.turns)) [
  | inl lt ↦ commits lt (slot ss (2 * at.commits)) refl (ap is_stop (sym (by_commit game ss at lt)) ∙ h)
  | inr ge ↦ elim (cases_lt at.resolved game.turns) [
    | inl below ↦ reveals ge below (slot ss (2 * at.resolved + 1)) refl (ap is_stop (sym (by_reveal game ss at ge)) ∙ h)
    | inr end ↦ next_at_end game q at.commits at.resolved ss w ge end
  ]
]
  where
    commits : at.commits < min (at.resolved + game.ahead) game.turns → (o : Option Received) → slot ss (2 * at.commits) ≡ o → is_stop (commit_step o) ≡ true →
        next_known game q (frames_in (in_order ss)) (shown ss at.commits at.resolved) ≡ shown ss at.commits at.resolved
    commits lt None e g =
        next_at_commit game q at.commits at.resolved ss w lt ∙ ap (λ (o : Option Received). with_commit (shown ss at.commits at.resolved) (of_slot (λ r. commit_of at.commits r.frame) o)) e
    commits lt (Some r) e g = absurd (false≢true g)

    reveals : min (at.resolved + game.ahead) game.turns ≤ at.commits → at.resolved < game.turns → (o : Option Received) → slot ss (2 * at.resolved + 1) ≡ o → is_stop (slot_step game at.track (slot ss (2 * at.resolved)) o) ≡ true →
        next_known game q (frames_in (in_order ss)) (shown ss at.commits at.resolved) ≡ shown ss at.commits at.resolved
    reveals ge below o e g =
        let one = is.ahead.0 in
        let c = commitment_at q at.resolved at.commits at.resolved ss w (omega arith) in
        next_at_reveal game q at.commits at.resolved ss c.0 c.1 w ge below (omega arith) c.2 c.3
        ∙ by_slot c.0 c.1 c.2 c.3 o e g
      where
        by_slot : (a : Received) (d : Digest) → slot ss (2 * at.resolved) ≡ Some a → a.frame ≡ Commit q at.resolved d → (o : Option Received) → slot ss (2 * at.resolved + 1) ≡ o → is_stop (slot_step game at.track (slot ss (2 * at.resolved)) o) ≡ true →
            with_move (shown ss at.commits at.resolved) (of_slot (λ r. opening_of game q (moves_to ss at.resolved) d at.resolved r.frame) (slot ss (2 * at.resolved + 1))) ≡ shown ss at.commits at.resolved
        by_slot a d i j None e g = ap (λ (o : Option Received). with_move (shown ss at.commits at.resolved) (of_slot (λ r. opening_of game q (moves_to ss at.resolved) d at.resolved r.frame) o)) e
        by_slot a d i j (Some r) e g =
            let own = w.own (2 * at.resolved + 1) r e in
            let f = is_reveal r.frame q at.resolved own.0 own.1 in
            let m : Move = f.0 in
            let halts = judged_stop game at.track m a r _ (move_fault game q at.track m) (ap is_stop (sym (step_revealed game at.track a r q at.resolved d m f.1 (slot ss (2 * at.resolved)) i j f.2)) ∙ g) in
            let opening = opening_here game q at.resolved (moves_to ss at.resolved) d ss r m f.1 e f.2 in
            let none : (if digest_eq (digest_of game (Reveal q at.resolved m f.1)) d && is_none (move_fault game q (track_after game q (moves_to ss at.resolved)) m) then Some m else None) ≡ None =
            ap (λ (y : Track). if digest_eq (digest_of game (Reveal q at.resolved m f.1)) d && is_none (move_fault game q y m) then Some m else None) (sym stream.track) ∙ ap (λ (b : Bool). if b then Some m else None) halts in
            ap (with_move (shown ss at.commits at.resolved)) (opening ∙ none)

-- a step goes on over a filled slot
pub slots_committed : (game : Game) (q : ℕ) (ss : List (Option Received)) (at : Stream) → length ss ≡ 2 * game.turns → AreSlots q ss at.commits at.resolved → step_from game ss at ≡ Committed → AreSlots q ss (at.commits + 1) at.resolved
slots_committed game q ss at len w h =
    let c = committed_next game q ss at w h in
    let lt = c.0 in
    let before = w.before in
    record {
      own = w.own;
      committed = λ t below. elim (cases_lt t at.commits) [
        | inl there ↦ w.committed t there
        | inr here ↦ let same : at.commits ≡ t = omega arith in ap (λ (i : ℕ). is_some (slot ss (2 * i))) (sym same) ∙ ap is_some c.3
      ];
      revealed = w.revealed;
      before = omega arith;
      within = omega arith;
      few = w.few;
    }

pub slots_resolved : (game : Game) (q : ℕ) (ss : List (Option Received)) (at : Stream) (track : Track) → IsSession game → length ss ≡ 2 * game.turns → AreSlots q ss at.commits at.resolved → step_from game ss at ≡ Resolved track → AreSlots q ss at.commits (at.resolved + 1)
slots_resolved game q ss at track is len w h =
    let s = step_resolving game q ss at track is len w h in
    let all = s.all in
    let within = s.within in
    let one = is.ahead.0 in
    record {
      own = w.own;
      committed = w.committed;
      revealed = λ t below. elim (cases_lt t at.resolved) [
        | inl there ↦ w.revealed t there
        | inr here ↦ let same : at.resolved ≡ t = omega arith in ap (λ (i : ℕ). is_some (slot ss (2 * i + 1))) (sym same) ∙ ap is_some s.reveals
      ];
      before = omega arith;
      within = w.within;
      few = w.few;
    }
