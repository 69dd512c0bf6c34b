-- Come: what a stream that has come to a place, or ended before it, says of all that the log shows.
use Rattle.std.proofs.Common.{List, None, [], ◌∷◌, ap, arith, inl, inr, subst, suc, sym, zero, zero-add, ℕ, ◌*◌, ◌++◌, ◌+◌, ◌-◌, ◌<◌, ◌≤◌, ◌∙◌, ◌≡◌, ◌⊎◌, slice_get, length, take}
use Rattle.std.specs.Prelude.{min}
use Rattle.std.proofs.Math.Nat.{suc-add}
use Rattle.std.proofs.lemmas.Bool.{cases_lt}
use Rattle.std.proofs.lemmas.Option.{slice_get_past}
use Rattle.definitions.specs.declared.frames.TurnFrame.{TurnFrame}
use Rattle.definitions.specs.declared.logs.Entry.{Entry}
use Rattle.definitions.specs.World.{Game, players_of}
use Rattle.definitions.specs.Moves.{track_after}
use Rattle.definitions.specs.Logs.{got_of}
use Rattle.definitions.specs.Held.{Known, known_to}
use Rattle.definitions.specs.Findings.{got_known}
use Rattle.definition_laws.proofs.Grows.{IsBeginning, IsBeginning_refl, IsBeginning_trans, next_grows}
use Rattle.definition_laws.proofs.Knowing.{AreOrderly, known_to_orderly, known_to_stuck, places_in_le}
use Rattle.definition_laws.proofs.Listing.{take_front}
use Rattle.grid_world.specs.Sessions.{IsSession}
use Rattle.grid_world.specs.declared.streams.Stream.{Stream}
use Rattle.grid_world.specs.Streams.{next_of}
use Rattle.frame_index.proofs.StreamsShown.{shown_short}
use Rattle.frame_index.specs.Heads.{Ends, Stands, front_of}
use Rattle.frame_index.proofs.Headed.{stands_ends, stands_read}

-- what is known of some places begins what is known of more
known_begins : (game : Game) (q : ℕ) (fs : List TurnFrame) (m n : ℕ) → IsBeginning (known_to game q fs n) (known_to game q fs (m + n))
unfolding known_to
known_begins game q fs zero n = subst (λ i. IsBeginning (known_to game q fs n) (known_to game q fs i)) (sym (zero-add n)) (IsBeginning_refl _)
known_begins game q fs (suc m) n =
    subst (λ i. IsBeginning (known_to game q fs n) (known_to game q fs i)) (sym (suc-add m n))
    (IsBeginning_trans _ _ _ (known_begins game q fs m n) (next_grows game q fs (known_to game q fs (m + n))))

pub length_more : {X : Type 0} (xs ys : List X) → length xs ≤ length (xs ++ ys)
length_more [] ys = omega arith
length_more (x ∷ xs) ys = let r = length_more xs ys in omega arith

-- the stream has come to the turn's reveal
abbrev pub IsAt : Game → ℕ → Stream → Type 0
IsAt game t s = (s.commits ≡ min (t + game.ahead) game.turns) × (s.resolved ≡ t)

module _ (game : Game) (q : ℕ) (h : List Entry) (f : ℕ) (s : Stream) (is : IsSession game) (player : q < players_of game) (stands : Stands game q (got_of q h) f s) where
  -- what is known up to where the stream has come
  abbrev pub front : Known
  front = known_to game q (got_of q h) (next_of s)

  few : next_of s ≤ 2 * game.turns
  few = shown_short game q (got_of q h) s is player (stands_read game q f (got_of q h) s stands)

  pub begins : IsBeginning front (got_known game q h)
  begins =
      let whole : 2 * game.turns - next_of s + next_of s ≡ 2 * game.turns = omega (arith, few) in
      subst (λ n. IsBeginning front (known_to game q (got_of q h) n)) whole (known_begins game q (got_of q h) (2 * game.turns - next_of s) (next_of s))

  pub ended : Ends game q (got_of q h) s → got_known game q h ≡ front
  ended ends =
      let whole : 2 * game.turns - next_of s + next_of s ≡ 2 * game.turns = omega (arith, few) in
      sym (ap (λ n. known_to game q (got_of q h) n) whole) ∙ known_to_stuck game q (got_of q h) (next_of s) (2 * game.turns - next_of s) ends

  pub resolved : s.resolved ≡ length front.moves
  resolved = ap (λ (r : Stream). r.resolved) (stands_read game q f (got_of q h) s stands)

  pub track : s.track ≡ track_after game q front.moves
  track = ap (λ (r : Stream). r.track) (stands_read game q f (got_of q h) s stands)

  -- the log resolves what the stream has resolved
  pub resolves : s.resolved ≤ length (got_known game q h).moves
  resolves = let r = resolved in let m = ap length begins.moves_are in let n = length_more front.moves begins.moves_after in omega arith

  -- and no more, where the stream ended
  pub ended_count : Ends game q (got_of q h) s → length (got_known game q h).moves ≡ s.resolved
  ended_count ends = ap (λ (k : Known). length k.moves) (ended ends) ∙ sym resolved

  -- up to a turn's reveal no further turn is resolved, and the stream comes there or ends before
  pub at_turn : (t : ℕ) → f ≡ front_of game t → (s.resolved ≤ t) × (IsAt game t s ⊎ Ends game q (got_of q h) s)
  at_turn t place = (
    least,
    elim (stands_ends game q f (got_of q h) s stands) [
      | inl here ↦
          let most = least in
          let within = o.within in
          let c = commits in
          let m = moves in
          inl (omega arith, omega arith)
      | inr ends ↦ inr ends
    ],
  )
    where
      known : Known
      known = known_to game q (got_of q h) f

      o : AreOrderly game known
      o = known_to_orderly game q (got_of q h) f

      commits : s.commits ≡ length known.digests
      commits = ap (λ (r : Stream). r.commits) stands

      moves : s.resolved ≡ length known.moves
      moves = ap (λ (r : Stream). r.resolved) stands

      no_further : (length known.moves ≡ 0) ⊎ (min (length known.moves + game.ahead) (game.turns + 1) ≤ length known.digests + 1) → s.resolved ≤ t
      no_further (inl none) = let m = moves in omega arith
      no_further (inr some) =
          let c = commits in
          let m = moves in
          let few : length known.digests + length known.moves ≤ f = places_in_le game q (got_of q h) f in
          elim (cases_lt t s.resolved) [
            | inl past ↦ absurd (omega arith)
            | inr le ↦ le
          ]

      least : s.resolved ≤ t
      least = no_further o.least

  -- a log whose stream has not come past a place resolves none of its turn
  pub no_more : (t : ℕ) → f ≡ front_of game (t + 1) → s.resolved ≤ t → slice_get (got_known game q h).moves t ≡ None
  no_more t place le = go (at_turn (t + 1) place).1
    where
      go : IsAt game (t + 1) s ⊎ Ends game q (got_of q h) s → slice_get (got_known game q h).moves t ≡ None
      go (inl here) = let e = here.1 in absurd (omega arith)
      go (inr ends) = slice_get_past (got_known game q h).moves t (let n = ended_count ends in omega arith)

  -- where the log resolves the turn of the place, the stream's track is the one before it
  pub before : (t : ℕ) → f ≡ front_of game t → t < length (got_known game q h).moves → s.track ≡ track_after game q (take t (got_known game q h).moves)
  before t place lt = go (at_turn t place).1
    where
      go : IsAt game t s ⊎ Ends game q (got_of q h) s → s.track ≡ track_after game q (take t (got_known game q h).moves)
      go (inl here) =
          let long : t ≡ length front.moves = sym here.1 ∙ resolved in
          let moves : take t (got_known game q h).moves ≡ front.moves =
          ap (take t) begins.moves_are ∙ ap (λ n. take n (front.moves ++ begins.moves_after)) long ∙ take_front front.moves begins.moves_after in
          track ∙ ap (track_after game q) (sym moves)
      go (inr ends) = let n = ended_count ends in let least = (at_turn t place).0 in absurd (omega arith)
