-- Stuck: frames none of which stands at the next place.
use Rattle.std.proofs.Common.{Bool, List, None, Option, Some, [], ap, arith, false, inl, inr, length, refl, sym, true, ℕ, ◌+◌, ◌++◌, ◌<◌, ◌∙◌, ◌∷◌, ◌≡◌, ◌≤◌}
use Rattle.std.specs.Prelude.{if◌then◌else◌, is_none, is_ok, is_some, min, slice_get, ◌&&◌, ◌==◌}
use Rattle.std.specs.Option.{option_map_or, option_or}
use Rattle.std.proofs.lemmas.Bool.{cases_lt, eq-eqb, false≢true}
use Rattle.definitions.specs.declared.frames.TurnFrame.{TurnFrame}
use Rattle.definitions.specs.declared.frames.TurnFrame.TheVariants as T
use Rattle.definitions.specs.declared.openings.Digest.{Digest}
use Rattle.definitions.specs.declared.places.Slot.{Slot}
use Rattle.definitions.specs.declared.openings.Nonce.{Nonce}
use Rattle.definitions.specs.declared.world.Move.{Move}
use Rattle.definitions.specs.declared.world.MoveFault.{MoveFault}
use Rattle.definitions.specs.declared.world.Track.{Track}
use Rattle.definitions.specs.Logs.{digest_eq}
use Rattle.move_rules.specs.Verdicts.{judged, verdict}
use Rattle.definitions.specs.Held.{Known, commit_of, digest_of, first_commit, known_to, next_known, opened, opening_of, with_commit, with_move}
use Rattle.definitions.specs.Lists.{first_of}
use Rattle.definitions.specs.Moves.{is_legal, move_fault, start_track, track_after}
use Rattle.definitions.specs.World.{Game}
use Rattle.definition_laws.proofs.Knowing.{next_commit, next_end, next_reveal}
use Rattle.definition_laws.proofs.Nexts.{no_commit, no_move}
use Rattle.grid_world.specs.Streams.{next_of, slot_next}
use Rattle.grid_world.proofs.NextSlots as slots
use Rattle.frame_index.specs.Openings.{opening_at}
use Rattle.frame_index.proofs.Opened.{first_opening_at}
use Rattle.frame_index.proofs.StreamsShown.{stream_none}
use Rattle.std.proofs.lemmas.Option.{none-some}
use Rattle.grid_world.specs.declared.streams.Stream.{Stream}
use Rattle.agreed_turns.specs.declared.heads.Head.{Head}
use Rattle.agreed_turns.specs.Heads.{IsAtEnd, fits, fits_slot, opens}

-- the first of two lists, and of one behind the other
first_append : {X Y : Type 0} (f : X → Option Y) (xs ys : List X) → first_of f (xs ++ ys) ≡ option_or (first_of f xs) (first_of f ys)
first_append f [] ys = refl
first_append {Y = Y} f (x ∷ xs) ys = ap (option_or (f x)) (first_append f xs ys) ∙ go (f x) (first_of f xs) (first_of f ys)
  where
    go : (a b c : Option Y) → option_or a (option_or b c) ≡ option_or (option_or a b) c
    go None b c = refl
    go (Some y) b c = refl

neither : {Y : Type 0} (a b : Option Y) → a ≡ None → b ≡ None → option_or a b ≡ None
neither {Y} a b e f = ap (λ (o : Option Y). option_or o b) e ∙ f

not_first : {Y : Type 0} (a b : Option Y) → option_or a b ≡ None → a ≡ None
not_first None b e = refl
not_first (Some y) b e = e

none_is : {Y : Type 0} (o : Option Y) → is_some o ≡ false → o ≡ None
none_is None e = refl
none_is (Some y) e = absurd (false≢true (sym e))

-- none of the frames stands at the place after what is known
pub record HasNone (game : Game) (q : ℕ) (fs : List TurnFrame) (k : Known) : Type 0 where
  pub commit : length k.digests < min (length k.moves + game.ahead) game.turns → first_commit fs (length k.digests) ≡ None
  pub reveal : min (length k.moves + game.ahead) game.turns ≤ length k.digests → length k.moves < game.turns →
      opened game q k.moves fs (length k.moves) (slice_get k.digests (length k.moves)) ≡ None

module _ (game : Game) (q : ℕ) (k : Known) where
  abbrev Commits : Type 0
  Commits = length k.digests < min (length k.moves + game.ahead) game.turns

  -- where they show no place more, and the other way round
  pub stuck_none : (fs : List TurnFrame) → next_known game q fs k ≡ k → HasNone game q fs k
  stuck_none fs stuck = record {
    commit = λ lt. no_commit k (first_commit fs (length k.digests)) (sym (next_commit game q fs k lt) ∙ stuck);
    reveal = λ le lt. no_move k (opened game q k.moves fs (length k.moves) (slice_get k.digests (length k.moves))) (sym (next_reveal game q fs k le lt) ∙ stuck);
  }

  pub none_stuck : (fs : List TurnFrame) → HasNone game q fs k → next_known game q fs k ≡ k
  none_stuck fs none = elim (cases_lt (length k.digests) (min (length k.moves + game.ahead) game.turns)) [
    | inl lt ↦ next_commit game q fs k lt ∙ ap (with_commit k) (none.commit lt)
    | inr le ↦ elim (cases_lt (length k.moves) game.turns) [
      | inl lt ↦ next_reveal game q fs k le lt ∙ ap (with_move k) (none.reveal le lt)
      | inr all ↦ next_end game q fs k le all
    ]
  ]

  opened_append : (fs gs : List TurnFrame) (t : ℕ) (o : Option Digest) → opened game q k.moves (fs ++ gs) t o ≡ option_or (opened game q k.moves fs t o) (opened game q k.moves gs t o)
  opened_append fs gs t None = refl
  opened_append fs gs t (Some d) = first_append (opening_of game q k.moves d t) fs gs

  pub none_append : (fs gs : List TurnFrame) → HasNone game q fs k → HasNone game q gs k → HasNone game q (fs ++ gs) k
  none_append fs gs a b = record {
    commit = λ lt. first_append (commit_of (length k.digests)) fs gs ∙ neither (first_commit fs (length k.digests)) (first_commit gs (length k.digests)) (a.commit lt) (b.commit lt);
    reveal = λ le lt. opened_append fs gs (length k.moves) (slice_get k.digests (length k.moves))
        ∙ neither (opened game q k.moves fs (length k.moves) (slice_get k.digests (length k.moves))) (opened game q k.moves gs (length k.moves) (slice_get k.digests (length k.moves))) (a.reveal le lt) (b.reveal le lt);
  }

  pub none_front : (fs gs : List TurnFrame) → HasNone game q (fs ++ gs) k → HasNone game q fs k
  none_front fs gs a = record {
    commit = λ lt. not_first (first_commit fs (length k.digests)) (first_commit gs (length k.digests)) (sym (first_append (commit_of (length k.digests)) fs gs) ∙ a.commit lt);
    reveal = λ le lt. not_first (opened game q k.moves fs (length k.moves) (slice_get k.digests (length k.moves))) (opened game q k.moves gs (length k.moves) (slice_get k.digests (length k.moves)))
        (sym (opened_append fs gs (length k.moves) (slice_get k.digests (length k.moves))) ∙ a.reveal le lt);
  }

-- the first of these frames show no place more, where all of them show none
pub stuck_front : (game : Game) (q : ℕ) (k : Known) (fs gs : List TurnFrame) → next_known game q (fs ++ gs) k ≡ k → next_known game q fs k ≡ k
stuck_front game q k fs gs stuck = none_stuck game q k fs (none_front game q k fs gs (stuck_none game q k (fs ++ gs) stuck))

-- a frame that doesn't stand at the next place of a head
module _ (game : Game) (q : ℕ) (before all : List TurnFrame) (f : TurnFrame) (h : Head) (at_end : IsAtEnd game q before all h) (other : fits game q h f ≡ false) where
  abbrev K : Known
  K = known_to game q all (next_of h.stream)

  commits : h.stream.commits ≡ length (known_to game q all (next_of h.stream)).digests
  commits = ap (λ (s : Stream). s.commits) at_end.read

  resolved : h.stream.resolved ≡ length (known_to game q all (next_of h.stream)).moves
  resolved = ap (λ (s : Stream). s.resolved) at_end.read

  track : h.stream.track ≡ track_after game q (known_to game q all (next_of h.stream)).moves
  track = ap (λ (s : Stream). s.track) at_end.read

  at_slot : (o : Option Slot) → o ≡ slot_next game h.stream → fits_slot game q h o f ≡ false
  at_slot o is = ap (λ (x : Option Slot). fits_slot game q h x f) is ∙ other

  no_commitment : length K.digests < min (length K.moves + game.ahead) game.turns → first_commit (f ∷ []) (length K.digests) ≡ None
  no_commitment lt =
      let c = commits in
      let r = resolved in
      let here = at_slot _ (slots.next_commit game h.stream (omega arith)) in
      ap (λ n. first_commit (f ∷ []) n) (sym c) ∙ neither (commit_of h.stream.commits f) None (none_is (commit_of h.stream.commits f) here) refl

  no_reveal : min (length K.moves + game.ahead) game.turns ≤ length K.digests → length K.moves < game.turns → (o : Option Digest) → slice_get K.digests (length K.moves) ≡ o →
      opened game q K.moves (f ∷ []) (length K.moves) o ≡ None
  no_reveal le lt None e = refl
  no_reveal le lt (Some d) e =
      let c = commits in
      let r = resolved in
      let here = at_slot _ (slots.next_reveal game h.stream (omega arith) (omega arith)) in
      let held = at_end.held d (ap (slice_get K.digests) r ∙ e) in
      let closed = none_is (opening_at game q h.stream.track d h.stream.resolved f)
      (sym (ap (λ (o : Option Digest). option_map_or (λ x. is_some (opening_at game q h.stream.track x h.stream.resolved f)) o false) held) ∙ here) in
      sym (first_opening_at game q K.moves d (f ∷ []) (length K.moves))
      ∙ neither (opening_at game q (track_after game q K.moves) d (length K.moves) f) None
      (ap (λ (t : Track). opening_at game q t d (length K.moves) f) (sym track) ∙ ap (λ n. opening_at game q h.stream.track d n f) (sym r) ∙ closed) refl

  pub still_ends : next_known game q (before ++ f ∷ []) (known_to game q all (next_of h.stream)) ≡ known_to game q all (next_of h.stream)
  still_ends = none_stuck game q K (before ++ f ∷ []) (none_append game q K before (f ∷ []) (stuck_none game q K before at_end.ends)
      (record { commit = no_commitment; reveal = λ le lt. no_reveal le lt (slice_get K.digests (length K.moves)) refl }))

-- of no frames nothing is shown
pub nothing_shown : (game : Game) (q : ℕ) (k : Known) → next_known game q [] k ≡ k
nothing_shown game q k = none_stuck game q k [] (record { commit = λ lt. refl; reveal = λ le lt. closed (slice_get k.digests (length k.moves)) })
  where
    closed : (o : Option Digest) → opened game q k.moves [] (length k.moves) o ≡ None
    closed None = refl
    closed (Some d) = refl

pub at_start : (game : Game) (q : ℕ) (t : Track) → t ≡ start_track game q → IsAtEnd game q [] [] (record { stream = record { commits = 0; resolved = 0; track = t }; held = None })
unfolding known_to
at_start game q t start = record {
  read = stream_none game q [] t start;
  ends = nothing_shown game q (known_to game q [] 0);
  held = λ d e. absurd (none-some d e);
}

-- a reveal of the turn that opens the digest held leads on exactly where its move is legal
pub opens_is : (game : Game) (q : ℕ) (h : Head) (t : ℕ) (f : TurnFrame) (p u : ℕ) (m : Move) (n : Nonce) (d e : Digest) → f ≡ T.Reveal p u m n → h.held ≡ Some d → u ≡ t →
    e ≡ digest_of game f → digest_eq e d ≡ true → is_ok (verdict game q h.stream.track m) ≡ opens game q h t f
unfolding is_legal
opens_is game q h t f p u m n d e is held turn digest same =
    by (u == t) (eq-eqb u t turn) (digest_eq (digest_of game (T.Reveal p u m n)) d) opened (move_fault game q h.stream.track m)
    ∙ sym (ap (λ (o : Option Digest). option_map_or (λ x. is_some (opening_at game q h.stream.track x t f)) o false) held
    ∙ ap (λ (g : TurnFrame). is_some (opening_at game q h.stream.track d t g)) is)
  where
    opened : digest_eq (digest_of game (T.Reveal p u m n)) d ≡ true
    opened = ap (λ (x : Digest). digest_eq x d) (ap (digest_of game) (sym is) ∙ sym digest) ∙ same

    by : (a : Bool) → a ≡ true → (b : Bool) → b ≡ true → (o : Option MoveFault) →
        is_ok (judged game h.stream.track m o) ≡ is_some (if a && b && is_none o then Some m else None)
    by true x true y None = refl
    by true x true y (Some fault) = refl
    by false x b y o = absurd (false≢true x)
    by true x false y o = absurd (false≢true y)
