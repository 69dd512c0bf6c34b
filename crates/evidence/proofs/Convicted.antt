-- Convicted: a player of whom one log got all frames of an illegal move is found, of that turn or of one before it.
use Rattle.std.proofs.Common.{◌≡◌, ◌⊎◌, ℕ, suc, ◌+◌, ◌*◌, ◌<◌, ◌≤◌, Bool, true, false, List, [], ◌∷◌, ◌++◌, length, Option, Some, None, refl, sym, ap, subst, ◌∙◌, length-append, arith, inl, inr, slice_get, take}
use Rattle.std.specs.Prelude.{flat_map, min, not, nat_lt, ◌&&◌, ◌==◌, if◌then◌else◌}
use Rattle.std.specs.Option.{option_or}
use Rattle.std.proofs.lemmas.Bool.{and_parts, and_from, cases_lt, cases_eq, eq-eqb, eqb-true, le-leb, ltb-true, or_left, or_right, false≢true, not-false}
use Rattle.std.proofs.Math.Seq.{take-length}
use Rattle.definitions.specs.declared.world.Move.{Move}
use Rattle.definitions.specs.declared.openings.Digest.{Digest}
use Rattle.definitions.specs.declared.frames.TurnFrame.{TurnFrame}
use Rattle.definitions.specs.declared.frames.TurnFrame.TheVariants.{Commit, Reveal}
use Rattle.definitions.specs.declared.logs.Entry.{Entry}
use Rattle.definitions.specs.declared.logs.Entry.TheVariants.{Chose, Got, Made}
use Rattle.definitions.specs.declared.findings.Kind.{Kind}
use Rattle.definitions.specs.declared.findings.Kind.TheVariants.{TwoCommits, Collision, Illegal}
use Rattle.definitions.specs.declared.findings.Spot.{Spot}
use Rattle.definitions.specs.declared.findings.Finding.{Finding}
use Rattle.definitions.specs.Lists.{EachIs, first_of, item_or}
use Rattle.definitions.specs.World.{Game, players_of}
use Rattle.definitions.specs.Moves.{is_legal, track_after}
use Rattle.definitions.specs.Logs.{digest_eq, frame_eq, got_in, got_of, turn_of}
use Rattle.definitions.specs.Held.{Known, commit_of, digest_of, first_commit, first_opening, opened, opening_of}
use Rattle.definitions.specs.Findings.{Sighting, are_illegal, findings, got_known, is_first_commit, is_illegal_after, is_illegal_at, opens, same_digest, show_kind, sightings_from}
use Rattle.definitions.specs.Exhibits.{are_of_kind, end_illegal, is_of_turn, is_opened_by, with_move_of, Shows}
use Rattle.definition_laws.specs.Members.{Has}
use Rattle.definition_laws.proofs.Alike.{digest_eq_same, digest_eq_true, frame_eq_true}
use Rattle.definition_laws.proofs.Headline.{known_to_sound}
use Rattle.definition_laws.proofs.Knowing.{known_to_whole, next_commit, next_reveal}
use Rattle.definition_laws.proofs.Listing.{take_more}
use Rattle.definition_laws.proofs.Members.{Has_flat_map, Has_middle, Has_slice_get}
use Rattle.definition_laws.proofs.Nexts.{some_at, no_commit, no_move}
use Rattle.definition_laws.proofs.WellFormed.{got_entry}
use Rattle.evidence.specs.Laws.{Convicts, HasCommit, StandsIn}
use Rattle.evidence.proofs.Convicting.{digest_turned, frames_convict, sightings_convict}
use Rattle.evidence.proofs.Counted.{IsTurnOf, turn_of_illegal}
use Rattle.evidence.proofs.Resolved.{GivesMove, IsResolved, held_by, opening_gives, resolved_by}
use Rattle.evidence.proofs.Showing.{item_there}

-- ---- what stands among frames is found there

first_of_Has : {X Y : Type 0} (f : X → Option Y) (xs : List X) (x : X) (y : Y) → Has xs x → f x ≡ Some y → first_of f xs ≡ None → ⊥
first_of_Has f [] x y m e none = absurd m
first_of_Has f (z ∷ xs) x y (inl same) e none = let at : f z ≡ Some y = ap f same ∙ e in absurd (cc (rw at at none))
first_of_Has {X} {Y} f (z ∷ xs) x y (inr m) e none = go (f z) none (first_of_Has f xs x y m e)
  where
    go : (o : Option Y) → option_or o (first_of f xs) ≡ None → (first_of f xs ≡ None → ⊥) → ⊥
    go None h ih = ih h
    go (Some w) h ih = absurd cc

got_Has : (q : ℕ) (h : List Entry) (f : TurnFrame) → Has h (Got q f) → Has (got_of q h) f
unfolding got_of
got_Has q h f m = Has_flat_map (got_in q) h (Got q f) f m (let e = eq-eqb q q refl in rw e (inl refl))

-- ---- a log that got the commitments

-- one of the logs got commitments of the player to each turn up to this one, and those without which it doesn't resolve the turn before
record Holds (game : Game) (logs : List (List Entry)) (h : List Entry) (q t : ℕ) : Type 0 where
  ahead : 1 ≤ game.ahead
  among : Has logs h
  player : q < players_of game
  turn : t < game.turns
  commits : (u : ℕ) → (u ≤ t) ⊎ ((0 < t) × (u + 1 < t + game.ahead)) → u < game.turns → HasCommit h q u

-- where a commitment would be the next that is known, none is got
none_next : (game : Game) (q : ℕ) (h : List Entry) → length (got_known game q h).digests < min (length (got_known game q h).moves + game.ahead) game.turns →
    first_commit (got_of q h) (length (got_known game q h).digests) ≡ None
none_next game q h lt =
    let k : Known = got_known game q h in
    no_commit k (first_commit (got_of q h) (length k.digests)) (sym (next_commit game q (got_of q h) k lt) ∙ known_to_whole game q (got_of q h))

-- so the next is none that the log got
got_next : (game : Game) (q u : ℕ) (h : List Entry) → HasCommit h q u → first_commit (got_of q h) u ≡ None → ⊥
got_next game q u h c none = first_of_Has (commit_of u) (got_of q h) (Commit q u c.0) c.0 (got_Has q h (Commit q u c.0) c.1) (let e = eq-eqb u u refl in rw e refl) none

-- a digest is held of each turn up to the first that isn't resolved
digest_there : (game : Game) (logs : List (List Entry)) (h : List Entry) (q t u : ℕ) → Holds game logs h q t → u ≤ t → u ≤ length (got_known game q h).moves →
    (d : Digest) × (slice_get (got_known game q h).digests u ≡ Some d)
digest_there game logs h q t u w le known = go (cases_lt u (length (got_known game q h).digests))
  where
    c : ℕ
    c = length (got_known game q h).digests

    go : (u < c) ⊎ (c ≤ u) → (d : Digest) × (slice_get (got_known game q h).digests u ≡ Some d)
    go (inl lt) = some_at (got_known game q h).digests u lt
    go (inr less) =
        let a = w.ahead in
        let b = w.turn in
        let lt : length (got_known game q h).digests < min (length (got_known game q h).moves + game.ahead) game.turns = omega arith in
        absurd (got_next game q c h (w.commits c (inl (omega arith)) (omega arith)) (none_next game q h lt))

-- a reveal that resolves the turn is not there while the turn is not resolved
moves_there : (game : Game) (logs : List (List Entry)) (h : List Entry) (q t : ℕ) (d : Digest) (g : TurnFrame) (m : Move) → Holds game logs h q t →
    length (got_known game q h).moves < t → slice_get (got_known game q h).digests (length (got_known game q h).moves) ≡ Some d → Has h (Got q g) →
    opening_of game q (got_known game q h).moves d (length (got_known game q h).moves) g ≡ Some m → ⊥
moves_there game logs h q t d g m w lt held stands opens = go (cases_lt (length (got_known game q h).digests) (min (length (got_known game q h).moves + game.ahead) game.turns))
  where
    k : Known
    k = got_known game q h

    go : (length (got_known game q h).digests < min (length (got_known game q h).moves + game.ahead) game.turns) ⊎ (min (length (got_known game q h).moves + game.ahead) game.turns ≤ length (got_known game q h).digests) → ⊥
    go (inl less) =
        let a = w.ahead in
        let b = w.turn in
        got_next game q (length k.digests) h (w.commits (length k.digests) (inr (omega arith, omega arith)) (omega arith)) (none_next game q h less)
    go (inr full) =
        let b = w.turn in
        let next = next_reveal game q (got_of q h) k full (omega arith) in
        let none = no_move k _ (sym next ∙ known_to_whole game q (got_of q h)) in
        let first : first_opening game q k.moves d (got_of q h) (length k.moves) ≡ None = ap (opened game q k.moves (got_of q h) (length k.moves)) (sym held) ∙ none in
        first_of_Has (opening_of game q k.moves d (length k.moves)) (got_of q h) g m (got_Has q h g stands) opens first

-- ---- the finding of that turn, or of one before it

abbrev pub IsFoundUpTo : Game → List (List Entry) → (q t : ℕ) → Type 0
IsFoundUpTo game logs q t = (f : Finding) × Has (findings game logs) f × (f.player ≡ q) × (f.turn ≤ t)

found_up_to : (game : Game) (logs : List (List Entry)) (q u t : ℕ) (k : Kind) → u ≤ t → Convicts game logs q u k → IsFoundUpTo game logs q t
found_up_to game logs q u t k le c = let e = c.3 in (c.0, c.1, c.2, omega arith)

-- a frame that a frame of the log's own list stands for
got_stands : (logs : List (List Entry)) (h : List Entry) (q : ℕ) (front back : List TurnFrame) (f : TurnFrame) → Has logs h → got_of q h ≡ front ++ f ∷ back → StandsIn logs q f
got_stands logs h q front back f among is = (h, among, got_entry q h f (subst (λ (fs : List TurnFrame). Has fs f) (sym is) (Has_middle front back f)))

-- a commitment that the log got is to the digest held, or two commitments are found
same_digest_or : (game : Game) (logs : List (List Entry)) (h : List Entry) (q t u : ℕ) (d e : Digest) → Holds game logs h q t → u ≤ t → Has h (Got q (Commit q u d)) →
    slice_get (got_known game q h).digests u ≡ Some e → IsFoundUpTo game logs q t ⊎ (d ≡ e)
unfolding digest_of
same_digest_or game logs h q t u d e w le stands held = go (digest_eq d e) refl
  where
    go : (b : Bool) → digest_eq d e ≡ b → IsFoundUpTo game logs q t ⊎ (d ≡ e)
    go true same = inr (digest_eq_true d e same)
    go false apart =
        let c = held_by game q u h e held in
        let b = w.turn in
        inl (found_up_to game logs q u t TwoCommits le
        (frames_convict game logs q u TwoCommits (Commit q u d) (Commit c.player u e) w.player (omega arith) (λ x. cc) refl refl (h, w.among, stands) (got_stands logs h q c.front c.back (Commit c.player u e) w.among c.stands)
        (ap not apart)))

-- a reveal that the log got shows the move that resolves its turn, or a collision is found
same_move_or : (game : Game) (logs : List (List Entry)) (h : List Entry) (q t u : ℕ) (d : Digest) (g : TurnFrame) (m n : Move) → Holds game logs h q t → u ≤ t → Has h (Got q g) →
    slice_get (got_known game q h).digests u ≡ Some d → opening_of game q (take u (got_known game q h).moves) d u g ≡ Some m → slice_get (got_known game q h).moves u ≡ Some n →
    IsFoundUpTo game logs q t ⊎ (m ≡ n)
same_move_or game logs h q t u d g m n w le stands held opening there = go (frame_eq g r.frame) refl
  where
    r : IsResolved game q u h n
    r = resolved_by game q u h n there

    digest : r.digest ≡ d
    digest = let same : Some r.digest ≡ Some d = sym r.held ∙ held in cc

    resolves : opening_of game q (take u (got_known game q h).moves) d u r.frame ≡ Some n
    resolves = ap (λ (x : Digest). opening_of game q (take u (got_known game q h).moves) x u r.frame) (sym digest) ∙ r.opens

    ours : GivesMove game q u (take u (got_known game q h).moves) d g m
    ours = opening_gives game q u (take u (got_known game q h).moves) d g m opening

    theirs : GivesMove game q u (take u (got_known game q h).moves) d r.frame n
    theirs = opening_gives game q u (take u (got_known game q h).moves) d r.frame n resolves

    alike : same_digest game g r.frame ≡ true
    alike = ap (λ (x : Digest). digest_eq x (digest_of game r.frame)) (ours.digest ∙ sym theirs.digest) ∙ digest_eq_same (digest_of game r.frame)

    go : (b : Bool) → frame_eq g r.frame ≡ b → IsFoundUpTo game logs q t ⊎ (m ≡ n)
    go true same =
        let frame = frame_eq_true g r.frame same in
        let moves : Some m ≡ Some n = sym opening ∙ ap (opening_of game q (take u (got_known game q h).moves) d u) frame ∙ resolves in
        inr cc
    go false apart =
        let b = w.turn in
        inl (found_up_to game logs q u t Collision le
        (frames_convict game logs q u Collision g r.frame w.player (omega arith) (λ x. cc) ours.turn theirs.turn (h, w.among, stands) (got_stands logs h q r.front r.back r.frame w.among r.stands)
        (and_from _ _ (and_from _ _ (and_from _ _ ours.reveals theirs.reveals) (ap not apart)) alike)))

-- ---- the last turn

-- the first commitment that the log got to the turn is its first sighting
record IsCommitSeen (q t log i : ℕ) (h : List Entry) (d : Digest) : Type 0 where
  player : ℕ
  place : ℕ
  there : slice_get h place ≡ Some (Got q (Commit player t d))
  first : (a : Sighting) → a.spot.entry ≡ i + place → is_first_commit (sightings_from q t log i h) a ≡ true

commit_later : (q t log i : ℕ) (e : Entry) (h : List Entry) (d : Digest) → ((a : Sighting) → is_first_commit (sightings_from q t log (i + 1) h) a ≡ true → is_first_commit (sightings_from q t log i (e ∷ h)) a ≡ true) →
    IsCommitSeen q t log (i + 1) h d → IsCommitSeen q t log i (e ∷ h) d
commit_later q t log i e h d more w =
    record { player = w.player; place = suc w.place; there = w.there; first = λ a at. more a (w.first a (omega arith)) }

commit_seen : (q t log i : ℕ) (h : List Entry) (d : Digest) → first_commit (got_of q h) t ≡ Some d → IsCommitSeen q t log i h d
unfolding sightings_from got_of
commit_seen q t log i [] d f = absurd (let none : None ≡ Some d = f in cc)
commit_seen q t log i (Chose u m n ∷ h) d f = commit_later q t log i (Chose u m n) h d (λ a x. x) (commit_seen q t log (i + 1) h d f)
commit_seen q t log i (Made g ∷ h) d f = commit_later q t log i (Made g) h d (λ a x. x) (commit_seen q t log (i + 1) h d f)
commit_seen q t log i (Got p (Reveal r u m n) ∷ h) d f = commit_later q t log i (Got p (Reveal r u m n)) h d (λ a. passed (p == q) (u == t) a) (commit_seen q t log (i + 1) h d (came (p == q) f))
  where
    here : Sighting
    here = record { spot = record { log = log; entry = i }; frame = Reveal r u m n }

    passed : (b c : Bool) (a : Sighting) → is_first_commit (sightings_from q t log (i + 1) h) a ≡ true → is_first_commit ((if b && c then here ∷ [] else []) ++ sightings_from q t log (i + 1) h) a ≡ true
    passed true true a x = x
    passed true false a x = x
    passed false c a x = x

    came : (b : Bool) → first_commit ((if b then Reveal r u m n ∷ [] else []) ++ flat_map (got_in q) h) t ≡ Some d → first_commit (flat_map (got_in q) h) t ≡ Some d
    came true x = x
    came false x = x
commit_seen q t log i (Got p (Commit r u e) ∷ h) d f = go (p == q) refl (u == t) refl f (commit_seen q t log (i + 1) h d)
  where
    here : Sighting
    here = record { spot = record { log = log; entry = i }; frame = Commit r u e }

    got : Entry
    got = Got p (Commit r u e)

    go : (b : Bool) → (p == q) ≡ b → (c : Bool) → (u == t) ≡ c → first_commit ((if b then Commit r u e ∷ [] else []) ++ flat_map (got_in q) h) t ≡ Some d →
        (first_commit (flat_map (got_in q) h) t ≡ Some d → IsCommitSeen q t log (i + 1) h d) → IsCommitSeen q t log i (got ∷ h) d
    go false x c k f ih = commit_later q t log i got h d (λ a y. rw x y) (ih f)
    go true x false k f ih = commit_later q t log i got h d (λ a y. rw (x, k) y) (ih (rw k at f))
    go true x true k f ih =
        let chosen : Some e ≡ Some d = rw k at f in
        let digest : e ≡ d = cc in
        let player : p ≡ q = eqb-true p q x in
        let turn : u ≡ t = eqb-true u t k in
        record {
          player = r;
          place = 0;
          there = ap (λ (n : ℕ). Some (Got n (Commit r u e))) player ∙ ap (λ (n : ℕ). Some (Got q (Commit r n e))) turn ∙ ap (λ (y : Digest). Some (Got q (Commit r t y))) digest;
          first = λ a at. rw (x, k) (eq-eqb i a.spot.entry (omega arith));
        }

opens_held : (game : Game) (g : TurnFrame) (o : Option Digest) (d : Digest) → o ≡ Some d → digest_of game g ≡ d → opens game g o ≡ true
opens_held game g o d held same = ap (opens game g) held ∙ ap (digest_eq (digest_of game g)) (sym same) ∙ digest_eq_same (digest_of game g)

-- no commitment shows an illegal move
illegal_no_commit : (game : Game) (q p u : ℕ) (before : List Move) (d : Digest) (g : TurnFrame) → is_illegal_after game q before g ≡ true → g ≡ Commit p u d → ⊥
illegal_no_commit game q p u before d g h e = false≢true (ap (is_illegal_after game q before) (sym e) ∙ h)

last_convicts : (game : Game) (logs : List (List Entry)) (h : List Entry) (q t : ℕ) (d : Digest) (g : TurnFrame) → Holds game logs h q t → t ≤ length (got_known game q h).moves →
    slice_get (got_known game q h).digests t ≡ Some d → Has h (Got q g) → turn_of g ≡ t → digest_of game g ≡ d → is_illegal_after game q (take t (got_known game q h).moves) g ≡ true →
    Convicts game logs q t Illegal
unfolding show_kind are_illegal
last_convicts game logs h q t d g w known held stands turn same illegal =
    let log = Has_slice_get logs h w.among in
    let entry = Has_slice_get h (Got q g) stands in
    let sound = (known_to_sound game q (got_of q h) (2 * game.turns)).first t d held in
    let c = commit_seen q t log.0 0 h d sound in
    let a : Sighting = record { spot = record { log = log.0; entry = c.place }; frame = Commit c.player t d } in
    let b : Sighting = record { spot = record { log = log.0; entry = entry.0 }; frame = g } in
    let item : item_or logs log.0 [] ≡ h = item_there logs log.0 h [] log.1 in
    let first : is_first_commit (sightings_from q t log.0 0 h) a ≡ true = c.first a (omega arith) in
    let at : is_illegal_at game q t (got_known game q h) g ≡ true = and_from _ _ (and_from _ _ (le-leb t _ known) (opens_held game g _ d held same)) illegal in
    let pair : are_illegal game q t logs a b ≡ true =
    and_from _ _ (and_from _ _ (eq-eqb log.0 log.0 refl) (ap (λ (x : List Entry). is_first_commit (sightings_from q t log.0 0 x) a) item ∙ first)) (ap (λ (x : List Entry). is_illegal_at game q t (got_known game q x) g) item ∙ at) in
    let apart : a.spot ≡ b.spot → ⊥ = λ e.
    (let place : c.place ≡ entry.0 = ap (λ (s : Spot). s.entry) e in
    let entries : Some (Got q (Commit c.player t d)) ≡ Some (Got q g) = sym c.there ∙ ap (slice_get h) place ∙ entry.1 in
    let frames : g ≡ Commit c.player t d = cc in
    illegal_no_commit game q c.player t (take t (got_known game q h).moves) d g illegal frames) in
    sightings_convict game logs q t Illegal a b w.player w.turn (record { log = h; there = log.1; got = c.there; turn = refl }) (record { log = h; there = log.1; got = entry.1; turn = turn }) apart
    (or_left _ _ pair) (or_right _ _ pair)

-- ---- the turns one behind the other

-- the two frames of a turn: a commitment, and a reveal that opens it
record IsOpening (game : Game) (q u : ℕ) (f g : TurnFrame) : Type 0 where
  digest : Digest
  move : Move
  commits : f ≡ Commit q u digest
  turn : turn_of g ≡ u
  same : digest_of game g ≡ digest
  opens : (before : List Move) → is_illegal_after game q before g ≡ false → opening_of game q before digest u g ≡ Some move
  more : (before : List Move) → with_move_of before g ≡ before ++ move ∷ []

opening_frames : (game : Game) (q u : ℕ) (f g : TurnFrame) → is_of_turn q u f ≡ true → is_of_turn q u g ≡ true → is_opened_by game f g ≡ true → IsOpening game q u f g
opening_frames game q u (Commit p v d) (Commit r w e) a b c = absurd (false≢true c)
opening_frames game q u (Reveal p v m n) g a b c = absurd (false≢true c)
opening_frames game q u (Commit p v d) (Reveal r w m n) a b c =
    let x = and_parts (p == q) (v == u) a in
    let y = and_parts (r == q) (w == u) b in
    let player : p ≡ q = eqb-true p q x.0 in
    let turn : v ≡ u = eqb-true v u x.1 in
    let turned : digest_eq (digest_of game (Reveal r w m n)) d ≡ true = digest_turned (digest_of game (Reveal r w m n)) d ∙ c in
    record {
      digest = d;
      move = m;
      commits = ap (λ (k : ℕ). Commit k v d) player ∙ ap (λ (k : ℕ). Commit q k d) turn;
      turn = eqb-true w u y.1;
      same = digest_eq_true (digest_of game (Reveal r w m n)) d turned;
      opens = λ before legal. rw (y.1, turned, not-false (is_legal game q (track_after game q before) m) legal) refl;
      more = λ before. refl;
    }

-- the commitments that the frames show
commits_shown : (game : Game) (q t : ℕ) (h : List Entry) (fs : List TurnFrame) (before : List Move) → end_illegal game q t fs before ≡ true → EachIs (λ f. Has h (Got q f)) fs →
    (u : ℕ) → length before ≤ u → u ≤ t → HasCommit h q u
unfolding end_illegal
commits_shown game q t h [] before e stand u from to = absurd (false≢true e)
commits_shown game q t h (f ∷ []) before e stand u from to = absurd (false≢true e)
commits_shown game q t h (f ∷ g ∷ fs) before e stand u from to =
    let w = turn_of_illegal game q t f g fs before e in
    let o = opening_frames game q (length before) f g w.first w.second w.opened in
    let here : length before ≡ u → HasCommit h q u = λ is. (o.digest, subst (λ (x : TurnFrame). Has h (Got q x)) (o.commits ∙ ap (λ (k : ℕ). Commit q k o.digest) is) stand.0) in
    elim (cases_eq (length before) u) [
      | inl is ↦ here is
      | inr other ↦
          elim w.rest [
            | inl last ↦ let a = last.0 in absurd (other (omega arith))
            | inr more ↦
                let len = ap length (o.more before) ∙ length-append before (o.move ∷ []) in
                commits_shown game q t h fs (with_move_of before g) more.2 stand.1.1 u (omega arith) to
          ]
    ]

convicts_from : (game : Game) (logs : List (List Entry)) (h : List Entry) (q t : ℕ) (fs : List TurnFrame) (before : List Move) → Holds game logs h q t → end_illegal game q t fs before ≡ true →
    EachIs (λ f. Has h (Got q f)) fs → length before ≤ t → length before ≤ length (got_known game q h).moves → take (length before) (got_known game q h).moves ≡ before → IsFoundUpTo game logs q t
unfolding end_illegal
convicts_from game logs h q t [] before w e stand le known same = absurd (false≢true e)
convicts_from game logs h q t (f ∷ []) before w e stand le known same = absurd (false≢true e)
convicts_from game logs h q t (f ∷ g ∷ fs) before w e stand le known same =
    elim (same_digest_or game logs h q t u o.digest held.0 w le (subst (λ (x : TurnFrame). Has h (Got q x)) o.commits stand.0) held.1) [
      | inl found ↦ found
      | inr digest ↦
          elim x.rest [
            | inl last ↦ found_at_last digest last.0 last.1
            | inr more ↦
                let there = some_at k.moves u (resolved digest more.0 more.1) in
                elim (same_move_or game logs h q t u held.0 g o.move there.0 w le stand.1.0 held.1 (opening digest more.1) there.1) [
                  | inl found ↦ found
                  | inr move ↦
                      let len = ap length (o.more before) ∙ length-append before (o.move ∷ []) in
                      let below = resolved digest more.0 more.1 in
                      let under = not_last more.0 in
                      convicts_from game logs h q t fs (with_move_of before g) w more.2 stand.1.1 (omega arith) (omega arith)
                      (ap (λ (n : ℕ). take n k.moves) len ∙ take_more u k.moves there.0 there.1 ∙ ap (λ (ms : List Move). ms ++ there.0 ∷ []) same ∙ ap (λ (y : Move). before ++ y ∷ []) (sym move) ∙ sym (o.more before))
                ]
          ]
    ]
  where
    u : ℕ
    u = length before

    k : Known
    k = got_known game q h

    x : IsTurnOf game q t f g fs before
    x = turn_of_illegal game q t f g fs before e

    o : IsOpening game q u f g
    o = opening_frames game q u f g x.first x.second x.opened

    held : (d : Digest) × (slice_get (got_known game q h).digests u ≡ Some d)
    held = digest_there game logs h q t u w le known

    found_at_last : o.digest ≡ held.0 → length before ≡ t → is_illegal_after game q before g ≡ true → IsFoundUpTo game logs q t
    found_at_last digest is illegal =
        let at : slice_get (got_known game q h).digests t ≡ Some held.0 = ap (slice_get (got_known game q h).digests) (sym is) ∙ held.1 in
        let moves : take t (got_known game q h).moves ≡ before = ap (λ (n : ℕ). take n (got_known game q h).moves) (sym is) ∙ same in
        found_up_to game logs q t t Illegal (omega arith)
        (last_convicts game logs h q t held.0 g w (omega arith) at stand.1.0 (o.turn ∙ is) (o.same ∙ digest) (ap (λ (ms : List Move). is_illegal_after game q ms g) moves ∙ illegal))

    not_last : (length before == t) ≡ false → length before < t
    not_last other = go (cases_eq (length before) t)
      where
        go : (length before ≡ t) ⊎ (length before ≡ t → ⊥) → length before < t
        go (inl is) = absurd (false≢true (sym other ∙ eq-eqb (length before) t is))
        go (inr apart) = omega arith

    opening : o.digest ≡ held.0 → is_illegal_after game q before g ≡ false → opening_of game q (take u (got_known game q h).moves) held.0 u g ≡ Some o.move
    opening digest legal =
        ap (λ (ms : List Move). opening_of game q ms held.0 u g) same ∙ ap (λ (d : Digest). opening_of game q before d u g) (sym digest) ∙ o.opens before legal

    resolved : o.digest ≡ held.0 → (length before == t) ≡ false → is_illegal_after game q before g ≡ false → u < length k.moves
    resolved digest other legal = go (cases_lt u (length k.moves))
      where
        go : (u < length k.moves) ⊎ (length k.moves ≤ u) → u < length k.moves
        go (inl lt) = lt
        go (inr less) =
            let under = not_last other in
            let all : length k.moves ≡ u = omega arith in
            let moves : take u k.moves ≡ k.moves = ap (λ (n : ℕ). take n k.moves) (sym all) ∙ take-length k.moves in
            let opens : opening_of game q k.moves held.0 (length k.moves) g ≡ Some o.move =
            ap (λ (ms : List Move). opening_of game q ms held.0 (length k.moves) g) (sym moves) ∙ ap (λ (n : ℕ). opening_of game q (take u k.moves) held.0 n g) all ∙ opening digest legal in
            absurd (moves_there game logs h q t held.0 g o.move w (omega arith) (ap (slice_get k.digests) all ∙ held.1) stand.1.0 opens)

pub illegal_convicts : (game : Game) (logs : List (List Entry)) (h : List Entry) (q t : ℕ) (fs : List TurnFrame) → 1 ≤ game.ahead → Has logs h → Shows game q t Illegal fs →
    EachIs (λ f. Has h (Got q f)) fs → ((u : ℕ) → 0 < t → t < u → u + 1 < t + game.ahead → u < game.turns → HasCommit h q u) → IsFoundUpTo game logs q t
unfolding are_of_kind
illegal_convicts game logs h q t fs ahead among shown stand more =
    let a = and_parts (nat_lt q (players_of game) && nat_lt t game.turns) (end_illegal game q t fs []) shown in
    let b = and_parts (nat_lt q (players_of game)) (nat_lt t game.turns) a.0 in
    let shows = commits_shown game q t h fs [] a.1 stand in
    let commits : (u : ℕ) → (u ≤ t) ⊎ ((0 < t) × (u + 1 < t + game.ahead)) → u < game.turns → HasCommit h q u = λ u which below.
    elim which [
      | inl le ↦ shows u (omega arith) le
      | inr beyond ↦ elim (cases_lt t u) [ inl lt ↦ more u beyond.0 lt beyond.1 below | inr le ↦ shows u (omega arith) le ]
    ] in
    convicts_from game logs h q t fs [] (record { ahead = ahead; among = among; player = ltb-true _ _ b.0; turn = ltb-true _ _ b.1; commits = commits }) a.1 stand (omega arith) (omega arith) refl
