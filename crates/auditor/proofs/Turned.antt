-- Turned: what is kept of a log's turn that the log resolves gives the two frames by which it does.
use Rattle.std.proofs.Common.{Bool, List, None, Some, [], ap, false, refl, subst, sym, true, ℕ, ◌+◌, ◌∙◌, ◌∷◌, ◌≡◌, Option, slice_get, take, IsTrue}
use Rattle.std.specs.Prelude.{◌&&◌, ◌==◌, cond, find, if◌then◌else◌, is_some, option_and_then, option_map}
use Rattle.std.specs.Option.{option_or}
use Rattle.std.specs.Result.{result_ok}
use Rattle.std.proofs.lemmas.Bool.{false≢true, eq-eqb, eqb-true}
use Rattle.definitions.specs.declared.world.Move.{Move}
use Rattle.definitions.specs.declared.world.Track.{Track}
use Rattle.definitions.specs.declared.openings.Digest.{Digest}
use Rattle.definitions.specs.declared.frames.TurnFrame.{TurnFrame}
use Rattle.definitions.specs.declared.frames.TurnFrame.TheVariants.{Commit, Reveal}
use Rattle.definitions.specs.declared.logs.Entry.{Entry}
use Rattle.definitions.specs.Lists.{first_of}
use Rattle.definitions.specs.World.{Game, is_open}
use Rattle.definitions.specs.Moves.{is_legal, next_track, start_track, track_after}
use Rattle.definitions.specs.Logs.{digest_eq, got_of, move_shown, turn_of}
use Rattle.definitions.specs.Held.{Known, commit_of, digest_of, opening_of}
use Rattle.definitions.specs.Findings.{got_known}
use Rattle.definition_laws.specs.Members.{Has}
use Rattle.definition_laws.proofs.Listing.{take_more}
use Rattle.definition_laws.proofs.Nexts.{some_at}
use Rattle.definition_laws.proofs.Tracks.{track_from_append}
use Rattle.frame_index.specs.Openings.{opening_at}
use Rattle.frame_index.specs.declared.seen.Seen.{Seen}
use Rattle.frame_index.specs.InLog.{takes, taken}
use Rattle.frame_index.specs.Judged.{is_good, judged}
use Rattle.frame_index.specs.Keeps.{Keeps, IsLeast}
use Rattle.frame_index.specs.Wants.{least_from}
use Rattle.frame_index.proofs.InLog.{first_in_log}
use Rattle.frame_index.proofs.Judging.{good_at, least_alike, led_to, opened_open_if}
use Rattle.frame_index.proofs.Lowest.{least_is}
use Rattle.frame_index.proofs.Wrong.{commit_some}
use Rattle.evidence.specs.Showing.{resolving, turn_shown}
use Rattle.evidence.proofs.Resolved.{held_by, resolved_by, find_there}
use Rattle.auditor.specs.declared.turns.Resolved.{Resolved}
use Rattle.plain_lemmas.proofs.Options.{some_when}
use Rattle.auditor.specs.Exhibits.{IsBefore, commits_in, resolved_from, resolved_kept, resolved_to, resolved_with}

-- the frame, if it passes
abbrev pick : (TurnFrame → Bool) → TurnFrame → Option TurnFrame
pick p f = if p f then Some f else None

picked : (p : TurnFrame → Bool) (f : TurnFrame) → is_some (pick p f) ≡ p f
picked p f = go (p f)
  where
    go : (b : Bool) → is_some (if b then Some f else None) ≡ b
    go true = refl
    go false = refl

picked_is : (p : TurnFrame → Bool) (f g : TurnFrame) → pick p f ≡ Some g → (p f ≡ true) × (f ≡ g)
picked_is p f g e = go (p f) refl e
  where
    go : (b : Bool) → p f ≡ b → (if b then Some f else None) ≡ Some g → (p f ≡ true) × (f ≡ g)
    go true x e = (x, cc)
    go false x e = absurd (let none : None ≡ Some g = e in cc)

first_pick : (p : TurnFrame → Bool) (fs : List TurnFrame) → first_of (pick p) fs ≡ find p fs
first_pick p [] = refl
first_pick p (f ∷ fs) = go (first_pick p fs) (p f)
  where
    go : first_of (pick p) fs ≡ find p fs → (b : Bool) → option_or (if b then Some f else None) (first_of (pick p) fs) ≡ cond b (Some f) (find p fs)
    go rest true = refl
    go rest false = rest

commits_turn : (u : ℕ) (f : TurnFrame) → is_some (commit_of u f) ≡ true → turn_of f ≡ u
commits_turn u (Reveal p t m n) h = absurd (false≢true h)
commits_turn u (Commit p t d) h = go (t == u) refl h
  where
    go : (b : Bool) → (t == u) ≡ b → is_some (if b then Some d else None) ≡ true → t ≡ u
    go true x h = eqb-true t u x
    go false x h = absurd (false≢true h)

opening_same : (game : Game) (q : ℕ) (before : List Move) (d : Digest) (u : ℕ) (f : TurnFrame) → opening_of game q before d u f ≡ opening_at game q (track_after game q before) d u f
opening_same game q before d u (Commit p t e) = refl
opening_same game q before d u (Reveal p t m n) = refl

opens_turn : (game : Game) (q : ℕ) (before : List Move) (d : Digest) (u : ℕ) (f : TurnFrame) → is_some (opening_of game q before d u f) ≡ true → turn_of f ≡ u
opens_turn game q before d u (Commit p t e) h = absurd (false≢true h)
opens_turn game q before d u (Reveal p t m n) h = go (t == u) refl h
  where
    go : (b : Bool) → (t == u) ≡ b → is_some (if b && digest_eq (digest_of game (Reveal p t m n)) d && is_legal game q (track_after game q before) m then Some m else None) ≡ true → t ≡ u
    go true x h = eqb-true t u x
    go false x h = absurd (false≢true h)

-- what opens a digest shows the move that it is said to open it to
opened_shows : (game : Game) (q : ℕ) (before : List Move) (d : Digest) (u : ℕ) (f : TurnFrame) (m : Move) → opening_of game q before d u f ≡ Some m → move_shown f ≡ Some m
opened_shows game q before d u (Commit p t e) m h = absurd (let none : None ≡ Some m = h in cc)
opened_shows game q before d u (Reveal p t x n) m h = ap (λ (y : Move). Some y) (some_when _ x m h).1

module _ (game : Game) (q u : ℕ) (logs : List (List Entry)) (log : ℕ) (h : List Entry) (kept : List Seen) (keeps : Keeps game q u logs kept) (there : slice_get logs log ≡ Some h) where
  -- the first frame of the log that passes is that of the least that is kept
  kept_find : (p : TurnFrame → Bool) (test : Seen → Bool) → ((f : TurnFrame) → p f ≡ true → turn_of f ≡ u) → ((k : Seen) → Has kept k → test k ≡ ((k.spot.log == log) && p k.frame)) →
      (f : TurnFrame) → find p (got_of q h) ≡ Some f → (k : Seen) × (least_from test None kept ≡ Some k) × Has kept k × (k.frame ≡ f)
  kept_find p test turn same f e = go (least_from test None kept) refl
    where
      given : (o : Option Seen) → IsLeast test kept o → taken (pick p) o ≡ Some f
      given o least =
          sym (first_in_log (pick p) q game u logs log h kept keeps there (λ g y x. turn g (picked_is p g y x).0) o
          (least_alike test (takes (pick p) log) kept (λ k m. same k m ∙ ap (λ (b : Bool). (k.spot.log == log) && b) (sym (picked p k.frame))) o least))
          ∙ first_pick p (got_of q h) ∙ e

      go : (o : Option Seen) → least_from test None kept ≡ o → (k : Seen) × (least_from test None kept ≡ Some k) × Has kept k × (k.frame ≡ f)
      go None x = absurd (let none : None ≡ Some f = given None (least_is test kept None x) in cc)
      go (Some k) x = let least = least_is test kept (Some k) x in (k, x, least.0, (picked_is p k.frame f (given (Some k) least)).1)

  -- the turn that is read from what is kept is the one that the log resolves
  pub turn_kept : (track : Track) → IsBefore game q u h track → (r : Resolved) × (resolved_kept game q track log kept ≡ Some r) ×
      (turn_shown game q (got_known game q h) (got_of q h) u ≡ r.commit ∷ r.reveal ∷ []) × (r.track ≡ track_after game q (take (u + 1) (got_known game q h).moves)) ×
      (move_shown r.reveal ≡ slice_get (got_known game q h).moves u)
  unfolding digest_of
  turn_kept track is =
      let k : Known = got_known game q h in
      let before : List Move = take u k.moves in
      let m = some_at k.moves u is.0 in
      let r = resolved_by game q u h m.0 m.1 in
      let c = held_by game q u h r.digest r.held in
      let commit : TurnFrame = Commit c.player u r.digest in
      let first : find (λ f. is_some (commit_of u f)) (got_of q h) ≡ Some commit =
      ap (find (λ f. is_some (commit_of u f))) c.stands ∙ find_there (commit_of u) c.front c.back commit c.first (let e = eq-eqb u u refl in rw e refl) in
      let second : find (λ f. is_some (opening_of game q before r.digest u f)) (got_of q h) ≡ Some r.frame =
      ap (find (λ f. is_some (opening_of game q before r.digest u f))) r.stands ∙ find_there (opening_of game q before r.digest u) r.front r.back r.frame r.first (ap is_some r.opens) in
      let one = kept_find (λ f. is_some (commit_of u f)) (commits_in log) (commits_turn u) (λ s n. ap (λ (b : Bool). (s.spot.log == log) && b) (commit_some u s.frame (keeps.within s n).turn)) commit first in
      let digest : one.0.digest ≡ r.digest = keeps.digests one.0 one.2 ∙ ap (digest_of game) one.3 in
      let at : (f : TurnFrame) → opening_at game q track one.0.digest u f ≡ opening_of game q before r.digest u f = (λ f. (λ i. opening_at game q (is.1 i) (digest i) u f) ∙ sym (opening_same game q before r.digest u f)) in
      let good : (s : Seen) → Has kept s → is_good game q track one.0.digest log s ≡ ((s.spot.log == log) && is_some (opening_of game q before r.digest u s.frame)) =
      (λ s n. ap (λ (b : Bool). (s.spot.log == log) && b) (good_at game q track one.0.digest u s.frame s.digest (keeps.within s n).turn (keeps.digests s n) ∙ ap is_some (at s.frame))) in
      let two = kept_find (λ f. is_some (opening_of game q before r.digest u f)) (is_good game q track one.0.digest log) (opens_turn game q before r.digest u) good r.frame second in
      let next : option_and_then result_ok (judged game q track one.0.digest two.0) ≡ Some (next_track game track m.0) =
      led_to game q track one.0.digest u two.0.frame two.0.digest (keeps.within two.0 two.2).turn (keeps.digests two.0 two.2)
      ∙ ap (option_map (next_track game track)) (at two.0.frame ∙ ap (opening_of game q before r.digest u) two.3 ∙ r.opens) in
      let shown : turn_shown game q k (got_of q h) u ≡ commit ∷ r.frame ∷ [] =
      (let held = r.held in let found : resolving game q k (got_of q h) u (slice_get k.digests u) ≡ Some r.frame = ap (resolving game q k (got_of q h) u) held ∙ second in rw (first, found) refl) in (
        record { commit = one.0.frame; reveal = two.0.frame; track = next_track game track m.0 },
        ap (resolved_from game q track log kept) one.1 ∙ ap (resolved_with game q track one.0) two.1 ∙ ap (resolved_to one.0 two.0) next,
        shown ∙ sym (λ i. one.3 i ∷ two.3 i ∷ []),
        ap (λ (x : Track). next_track game x m.0) is.1 ∙ sym (track_from_append game (start_track game q) before (m.0 ∷ [])) ∙ ap (track_after game q) (sym (take_more u k.moves m.0 m.1)),
        ap move_shown two.3 ∙ opened_shows game q before r.digest u r.frame m.0 r.opens ∙ sym m.1,
      )

-- it ends on an open cell
pub turn_open : (game : Game) (q : ℕ) (track : Track) (log : ℕ) (kept : List Seen) (r : Resolved) → resolved_kept game q track log kept ≡ Some r → IsTrue (is_open game.grid r.track.at)
turn_open game q track log kept r e = from (least_from (commits_in log) None kept) e
  where
    to : (c s : Seen) (o : Option Track) → o ≡ option_and_then result_ok (judged game q track c.digest s) → resolved_to c s o ≡ Some r → IsTrue (is_open game.grid r.track.at)
    to c s None x e = absurd (let none : None ≡ Some r = e in cc)
    to c s (Some t) x e =
        let made : Resolved = record { commit = c.frame; reveal = s.frame; track = t } in
        let some : Some made ≡ Some r = e in
        let same : made ≡ r = cc in
        subst (λ (y : Resolved). IsTrue (is_open game.grid y.track.at)) same (opened_open_if game q track (digest_eq s.digest c.digest) s.frame (Some t) x)

    through : (c : Seen) (o : Option Seen) → resolved_with game q track c o ≡ Some r → IsTrue (is_open game.grid r.track.at)
    through c None e = absurd (let none : None ≡ Some r = e in cc)
    through c (Some s) e = to c s (option_and_then result_ok (judged game q track c.digest s)) refl e

    from : (o : Option Seen) → resolved_from game q track log kept o ≡ Some r → IsTrue (is_open game.grid r.track.at)
    from None e = absurd (let none : None ≡ Some r = e in cc)
    from (Some c) e = through c (least_from (is_good game q track c.digest log) None kept) e
