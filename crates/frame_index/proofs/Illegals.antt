-- Illegals: what a stream that has come to a turn says of the frames of the turn is what the definitions say of them.
use Rattle.std.proofs.Common.{Bool, List, None, Some, ap, arith, false, inl, inr, refl, sym, true, ℕ, ◌++◌, ◌+◌, ◌<◌, ◌≤◌, ◌∙◌, ◌≡◌, ◌⊎◌, Option, slice_get, length, take, is_err, IfSome}
use Rattle.std.specs.Prelude.{◌&&◌, ◌==◌, if◌then◌else◌, is_some, nat_le, not}
use Rattle.std.specs.Option.{option_map_or}
use Rattle.std.proofs.lemmas.Bool.{false≢true, and_parts, cases_lt, eqb-true, le-leb, lt-leb}
use Rattle.std.proofs.lemmas.Option.{slice_get_past, slice_get_within}
use Rattle.definitions.specs.declared.findings.Spot.{Spot}
use Rattle.definitions.specs.declared.findings.Kind.TheVariants.{Illegal}
use Rattle.definitions.specs.declared.world.Track.{Track}
use Rattle.definitions.specs.declared.openings.Digest.{Digest}
use Rattle.definitions.specs.declared.frames.TurnFrame.{TurnFrame}
use Rattle.definitions.specs.declared.frames.TurnFrame.TheVariants.{Commit, Reveal}
use Rattle.definitions.specs.declared.logs.Entry.{Entry}
use Rattle.definitions.specs.World.{Game, players_of}
use Rattle.definitions.specs.Moves.{is_legal, track_after}
use Rattle.definitions.specs.Logs.{digest_eq, got_of}
use Rattle.definitions.specs.Held.{Known, commit_of, digest_of, first_commit}
use Rattle.definitions.specs.Findings.{finding_at, got_known, is_commit, is_illegal_after, is_illegal_at, opens}
use Rattle.definition_laws.specs.Illegals.{is_illegal_from}
use Rattle.definition_laws.specs.Members.{Has}
use Rattle.definition_laws.proofs.Grows.{IsBeginning}
use Rattle.definition_laws.proofs.LegalMoves.{illegal_after_track}
use Rattle.definition_laws.proofs.Listing.{slice_get_front, take_front}
use Rattle.grid_world.specs.Sessions.{IsSession}
use Rattle.move_rules.specs.Verdicts.{verdict}
use Rattle.grid_world.specs.declared.streams.Stream.{Stream}
use Rattle.frame_index.proofs.Opened.{refused_illegal}
use Rattle.frame_index.proofs.StreamsShown.{held_there}
use Rattle.frame_index.specs.declared.seen.Seen.{Seen}
use Rattle.frame_index.specs.Heads.{Ends, Stands, front_of}
use Rattle.frame_index.specs.Streams.{IsReadFrom}
use Rattle.frame_index.specs.InLog.{NoneBelow, ShowsIn, is_bad, takes}
use Rattle.frame_index.specs.Judged.{is_wrong, judged_by}
use Rattle.frame_index.specs.Keeps.{Keeps, IsLeast, finding_by}
use Rattle.frame_index.specs.Pairs.{in_order}
use Rattle.frame_index.proofs.Come as C
use Rattle.frame_index.proofs.Come.{IsAt, length_more}
use Rattle.frame_index.proofs.Headed.{stands_read}
use Rattle.frame_index.proofs.InLog.{first_in_log}
use Rattle.frame_index.proofs.Judging.{least_alike}
use Rattle.frame_index.proofs.OfTurn.{commit_turn}
use Rattle.frame_index.proofs.Wrong.{item_is, none_without_commit, none_without_wrong, wrong_found, wrong_none}

and_none : (b : Bool) → (b && false) ≡ false
and_none true = refl
and_none false = refl

-- a commitment carries its digest
commit_carries : (game : Game) (t : ℕ) (f : TurnFrame) → is_some (commit_of t f) ≡ true → commit_of t f ≡ Some (digest_of game f)
unfolding digest_of
commit_carries game t (Reveal p u m n) h = absurd (false≢true h)
commit_carries game t (Commit p u d) h = go (u == t) h
  where
    go : (b : Bool) → is_some (if b then Some d else None) ≡ true → (if b then Some d else None) ≡ Some d
    go true h = refl
    go false h = absurd (false≢true h)

module _ (game : Game) (q t : ℕ) (h : List Entry) (s : Stream) (is : IsSession game) (player : q < players_of game) (turn : t < game.turns) (stands : Stands game q (got_of q h) (front_of game t) s) where
  abbrev front : Known
  front = C.front game q h (front_of game t) s is player stands

  abbrev all : Known
  all = got_known game q h

  begins : IsBeginning front all
  begins = C.begins game q h (front_of game t) s is player stands

  ended : Ends game q (got_of q h) s → all ≡ front
  ended ends = C.ended game q h (front_of game t) s is player stands ends

  resolved : s.resolved ≡ length front.moves
  resolved = C.resolved game q h (front_of game t) s is player stands

  track : s.track ≡ track_after game q front.moves
  track = C.track game q h (front_of game t) s is player stands

  read : IsReadFrom game q (got_of q h) s
  read = stands_read game q (front_of game t) (got_of q h) s stands

  at : (s.resolved ≤ t) × (IsAt game t s ⊎ Ends game q (got_of q h) s)
  at = C.at_turn game q h (front_of game t) s is player stands t refl

  commits : s.commits ≡ length front.digests
  commits = ap (λ (r : Stream). r.commits) read

  -- where the stream has come to the turn, a frame is illegal where it opens the digest held and is not legal from the track
  here : (d : Digest) → s.resolved ≡ t → t < s.commits → first_commit (got_of q h) t ≡ Some d → (f : TurnFrame) →
      is_illegal_at game q t all f ≡ (digest_eq (digest_of game f) d && is_illegal_from game q s.track f)
  here d came lt first f = (λ i. (reached i && opens game f (digest i)) && is_illegal_after game q (moves i) f)
      ∙ ap (λ (b : Bool). digest_eq (digest_of game f) d && b) (illegal_after_track game q front.moves f ∙ ap (λ (x : Track). is_illegal_from game q x f) (sym track))
    where
      long : t ≡ length front.moves
      long = sym came ∙ resolved

      moves : take t all.moves ≡ front.moves
      moves = ap (take t) begins.moves_are ∙ ap (λ n. take n (front.moves ++ begins.moves_after)) long ∙ take_front front.moves begins.moves_after

      digest : slice_get all.digests t ≡ Some d
      digest = ap (λ (xs : List Digest). slice_get xs t) begins.digests_are
          ∙ slice_get_front front.digests begins.digests_after t d (sym (held_there game q t (got_of q h) s read lt) ∙ first)

      reached : nat_le t (length all.moves) ≡ true
      reached = le-leb _ _ (let l = long in let m = ap length begins.moves_are in let n = length_more front.moves begins.moves_after in omega arith)

  -- else none is
  not_here : (s.resolved ≡ t → t < s.commits → ⊥) → (f : TurnFrame) → is_illegal_at game q t all f ≡ false
  not_here never f = go at.1
    where
      none : (b : Bool) (o : Option Digest) (x : Bool) → (b ≡ false) ⊎ (o ≡ None) → (b && opens game f o && x) ≡ false
      none b o x (inl e) = ap (λ (y : Bool). y && opens game f o && x) e
      none b o x (inr e) = ap (λ (y : Option Digest). b && opens game f y && x) e ∙ ap (λ (y : Bool). y && x) (and_none b)

      why : all ≡ front → (nat_le t (length all.moves) ≡ false) ⊎ (slice_get all.digests t ≡ None)
      why e = elim (cases_lt s.resolved t) [
        | inl lt ↦ inl (ap (λ (k : Known). nat_le t (length k.moves)) e ∙ lt-leb _ _ (let r = resolved in omega arith))
        | inr ge ↦ inr (ap (λ (k : Known). slice_get k.digests t) e ∙ slice_get_past front.digests t (past ge))
      ]
        where
          past : t ≤ s.resolved → length front.digests ≤ t
          past ge =
              let least = at.0 in
              let same : s.resolved ≡ t = omega arith in
              let c = commits in
              elim (cases_lt t s.commits) [
                | inl lt ↦ absurd (never same lt)
                | inr le ↦ omega arith
              ]

      go : IsAt game t s ⊎ Ends game q (got_of q h) s → is_illegal_at game q t all f ≡ false
      go (inl here) = let c = here.0 in let one = is.ahead.0 in absurd (never here.1 (omega arith))
      go (inr ends) = none _ _ _ (why (ended ends))

  module _ (logs : List (List Entry)) (log : ℕ) (kept : List Seen) (keeps : Keeps game q t logs kept) (there : slice_get logs log ≡ Some h) where
    bad_is : (f : TurnFrame) → is_bad game q t logs log f ≡ is_illegal_at game q t all f
    bad_is f = ap (λ (g : List Entry). is_illegal_at game q t (got_known game q g) f) (item_is logs log h there)

    wrong_by : (from : Track) (d e : Digest) (f : TurnFrame) → e ≡ digest_of game f → option_map_or is_err (judged_by game q from (digest_eq e d) f) false ≡ (digest_eq (digest_of game f) d && is_illegal_from game q from f)
    wrong_by from d e (Commit p u c) same = sym (and_none _)
    wrong_by from d e (Reveal p u m n) same = ap (λ (x : Digest). option_map_or is_err (if digest_eq x d then Some (verdict game q from m) else None) false) same ∙ go (digest_eq (digest_of game (Reveal p u m n)) d)
      where
        go : (b : Bool) → option_map_or is_err (if b then Some (verdict game q from m) else None) false ≡ (b && not (is_legal game q from m))
        go true = refused_illegal game q from m
        go false = refl

    -- of a log whose stream does not come to the turn nothing is shown
    pub shows_not_here : (s.resolved ≡ t → t < s.commits → ⊥) → ShowsIn game q t logs kept log None
    shows_not_here never = none_without_wrong game q t logs kept keeps (is_bad game q t logs) (λ i g f at. ap (λ (x : List Entry). is_illegal_at game q t (got_known game q x) f) (sym (item_is logs i g at))) log
        (λ k m p. false≢true (sym (bad_is k.frame ∙ not_here never k.frame) ∙ (and_parts _ _ p).1))

    pub shows_no_commit : IsLeast (takes (commit_of t) log) kept None → ShowsIn game q t logs kept log None
    shows_no_commit least = none_without_commit game q t logs kept keeps (is_bad game q t logs) (λ i g f at. ap (λ (x : List Entry). is_illegal_at game q t (got_known game q x) f) (sym (item_is logs i g at))) log least

    module _ (c : Seen) (commit : IsLeast (takes (commit_of t) log) kept (Some c)) (came : s.resolved ≡ t) (lt : t < s.commits) where
      first : first_commit (got_of q h) t ≡ Some c.digest
      first =
          first_in_log (commit_of t) q game t logs log h kept keeps there (commit_turn t) (Some c) commit
          ∙ commit_carries game t c.frame (and_parts _ _ commit.1).1 ∙ ap (λ (d : Digest). Some d) (sym (keeps.digests c commit.0))

      wrong_is : (k : Seen) → Has kept k → is_wrong game q s.track c.digest log k ≡ ((k.spot.log == log) && is_bad game q t logs log k.frame)
      wrong_is k m = ap (λ (b : Bool). (k.spot.log == log) && b)
          (wrong_by s.track c.digest k.digest k.frame (keeps.digests k m) ∙ sym (here c.digest came lt first k.frame) ∙ sym (bad_is k.frame))

      pub shows_no_wrong : IsLeast (is_wrong game q s.track c.digest log) kept None → ShowsIn game q t logs kept log None
      shows_no_wrong least = none_without_wrong game q t logs kept keeps (is_bad game q t logs) (λ i g f at. ap (λ (x : List Entry). is_illegal_at game q t (got_known game q x) f) (sym (item_is logs i g at))) log
          (least_alike _ _ kept wrong_is None least)

      pub shows_both : (r : Seen) (p : Spot × Spot) → IsLeast (is_wrong game q s.track c.digest log) kept (Some r) → p ≡ in_order r c → ShowsIn game q t logs kept log (Some p)
      shows_both r p least e = (c, r, record { commit = commit; wrong = least_alike _ _ kept wrong_is (Some r) least }, reveal r.frame (and_parts _ _ least.1).1, e)
        where
          reveal : (f : TurnFrame) → option_map_or is_err (judged_by game q s.track (digest_eq r.digest c.digest) f) false ≡ true → is_commit f ≡ false
          reveal (Commit p u d) x = absurd (false≢true x)
          reveal (Reveal p u m n) x = refl

-- what is wrong in a log stands in it
pub wrong_log : (game : Game) (q : ℕ) (from : Track) (d : Digest) (log : ℕ) (k : Seen) → is_wrong game q from d log k ≡ true → k.spot.log ≡ log
wrong_log game q from d log k h = eqb-true k.spot.log log (and_parts _ _ h).0

module _ (game : Game) (q t : ℕ) (logs : List (List Entry)) (kept : List Seen) (keeps : Keeps game q t logs kept) where
  right : (i : ℕ) (h : List Entry) (f : TurnFrame) → slice_get logs i ≡ Some h → is_illegal_at game q t (got_known game q h) f ≡ is_bad game q t logs i f
  right i h f at = ap (λ (x : List Entry). is_illegal_at game q t (got_known game q x) f) (sym (item_is logs i h at))

  pub none_below_more : (i : ℕ) (o : Option (Spot × Spot)) → is_some o ≡ false → ((h : List Entry) → slice_get logs i ≡ Some h → ShowsIn game q t logs kept i o) → NoneBelow game q t logs i → NoneBelow game q t logs (i + 1)
  none_below_more i (Some p) none shows below = absurd (false≢true (sym none))
  none_below_more i None none shows below = λ a b lt va vb wrong. elim (cases_lt a.spot.log i) [
    | inl less ↦ below a b less va vb wrong
    | inr ge ↦ let same : a.spot.log ≡ i = omega arith in shows va.log (ap (slice_get logs) (sym same) ∙ va.there) a b same va vb wrong
  ]

  pub illegal_found : (i : ℕ) (o : Option (Spot × Spot)) → is_some o ≡ true → IfSome o (λ p. (k : Seen) × Has kept k × (k.spot.log ≡ i)) → ((h : List Entry) → slice_get logs i ≡ Some h → ShowsIn game q t logs kept i o) →
      NoneBelow game q t logs i → finding_by q t Illegal o ≡ finding_at game logs q t Illegal
  illegal_found i None some one shows below = absurd (false≢true some)
  illegal_found i (Some p) some one shows below =
      let seen = keeps.within one.0 one.1 in
      let pair = shows seen.log (ap (slice_get logs) (sym one.2) ∙ seen.there) in
      ap (λ (x : Spot × Spot). finding_by q t Illegal (Some x)) pair.4 ∙ sym (wrong_found game q t logs kept keeps (is_bad game q t logs) right i pair.0 pair.1 pair.2 below pair.3)

  pub illegal_none : (n : ℕ) → length logs ≤ n → NoneBelow game q t logs n → None ≡ finding_at game logs q t Illegal
  illegal_none n le below =
      sym (wrong_none game q t logs kept keeps (is_bad game q t logs) right (λ a b va vb wrong. let lt = slice_get_within logs a.spot.log va.log va.there in below a b (omega arith) va vb wrong))
