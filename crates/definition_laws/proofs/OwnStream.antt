-- OwnStream: the frames that an owner made are the first of its stream, each at its place.
use Rattle.std.proofs.Common.{List, None, Some, [], ap, arith, false, inl, length, length-append, refl, suc, sym, true, ℕ, ◌++◌, ◌+◌, ◌<◌, ◌∙◌, ◌∷◌, ◌≡◌, ◌≤◌}
use Rattle.std.specs.Prelude.{map, slice_get, take, ◌==◌}
use Rattle.std.proofs.lemmas.List.{length-map, length-take-le, map-append, take-append-le}
use Rattle.std.proofs.lemmas.Bool.{and_from, eq-eqb, ne_eqb}
use Rattle.std.proofs.lemmas.Option.{slice_get_within}
use Rattle.definitions.specs.declared.openings.Opening.{Opening}
use Rattle.definitions.specs.Places.{commit_place, reveal_place}
use Rattle.definitions.specs.declared.frames.TurnFrame.TheVariants.{Commit, Reveal}
use Rattle.definitions.specs.Moves.{are_legal_from, is_legal, start_track, track_after}
use Rattle.definitions.specs.declared.frames.TurnFrame.{TurnFrame}
use Rattle.definitions.specs.Held.{Known, digest_of, first_commit, first_opening, known_to, next_known, opened, places_in, with_commit, with_move}
use Rattle.definitions.specs.declared.openings.Digest.{Digest}
use Rattle.definitions.specs.Openings.{commitment}
use Rattle.definitions.specs.World.{Game}
use Rattle.definition_laws.proofs.Listing.{first_false, first_true, map_take_more, slice_get_map, slice_get_take}
use Rattle.definition_laws.proofs.Chosen.{AreChosen, AreChosen_push, legal_at}
use Rattle.definition_laws.proofs.Knowing.{LacksCommits, LacksReveals, first_commit_none, first_opening_none, has_reveal, has_reveal_append, known_from, known_to_more, next_commit, next_reveal}
use Rattle.definition_laws.proofs.Order.{IsOrderly, commit_orderly, commit_turn, reveal_orderly, reveal_turn}
use Rattle.definition_laws.proofs.Tracks.{are_legal_from_append}
use Rattle.definition_laws.proofs.Alike.{digest_eq_same}

-- the commitments to the first openings, and the moves of the first
abbrev pub own_known : Game → List Opening → ℕ → ℕ → Known
own_known game os c r = record { digests = map (commitment game.id) (take c os); moves = map (λ o. o.mv) (take r os) }

-- the frames that the owner made are the first of its stream, by what it chose
pub record IsOwn (game : Game) (me : ℕ) (fs : List TurnFrame) (os : List Opening) : Type 0 where
  pub c : ℕ
  pub r : ℕ
  pub counted : length fs ≡ c + r
  pub orderly : IsOrderly game c r
  pub before : r ≤ c
  pub chosen_are : AreChosen me 0 os
  pub few : length os ≤ game.turns
  pub enough : c ≤ length os
  pub ready : length os ≤ c + 1
  pub legal : are_legal_from game me (start_track game me) (map (λ o. o.mv) os) ≡ true
  pub known_is : known_to game me fs (length fs) ≡ own_known game os c r
  pub commits_end : LacksCommits c fs
  pub reveals_end : LacksReveals r fs

pub length_own : {X : Type 0} (f : Opening → X) (n : ℕ) (os : List Opening) → n ≤ length os → length (map f (take n os)) ≡ n
length_own f n os h = length-map (take n os) f ∙ length-take-le n os h

pub own_empty : (game : Game) (me : ℕ) → IsOwn game me [] []
unfolding known_to has_reveal AreChosen
own_empty game me = record {
  c = 0;
  r = 0;
  counted = refl;
  orderly = record { within = omega arith; turns = omega arith; least = inl refl };
  before = omega arith;
  chosen_are = tt;
  few = omega arith;
  enough = omega arith;
  ready = omega arith;
  legal = refl;
  known_is = refl;
  commits_end = λ t h. refl;
  reveals_end = λ t h. refl;
}

pub own_chose : (game : Game) (me : ℕ) (fs : List TurnFrame) (os : List Opening) (o : Opening) → 1 ≤ game.ahead → IsOwn game me fs os →
    o.player ≡ me → o.turn ≡ length os → length os < game.turns → length fs ≡ commit_place game (length os) → is_legal game me (track_after game me (map (λ o. o.mv) os)) o.mv ≡ true →
    IsOwn game me fs (os ++ o ∷ [])
own_chose game me fs os o d w p t lt at legal =
    let l = length-append os (o ∷ []) in
    let turn = commit_turn game w.c w.r (length os) d w.orderly lt (sym w.counted ∙ at) in
    let last : length os ≡ w.c = turn.1 in
    let le_c = w.enough in
    let le_r = w.before in
    record {
      c = w.c;
      r = w.r;
      counted = w.counted;
      orderly = w.orderly;
      before = w.before;
      chosen_are = AreChosen_push me 0 os o w.chosen_are p (omega arith);
      few = omega arith;
      enough = omega arith;
      ready = omega arith;
      legal = ap (are_legal_from game me (start_track game me)) (map-append (λ o. o.mv) os (o ∷ []))
          ∙ are_legal_from_append game me (start_track game me) (map (λ o. o.mv) os) (o.mv ∷ [])
          ∙ and_from _ _ w.legal (and_from _ _ legal refl);
      known_is = w.known_is ∙ known_from _ _
          (sym (ap (map (commitment game.id)) (take-append-le w.c os (o ∷ []) (omega arith))))
          (sym (ap (map (λ o. o.mv)) (take-append-le w.r os (o ∷ []) (omega arith))));
      commits_end = w.commits_end;
      reveals_end = w.reveals_end;
    }

-- after a frame more, all that was known is known, and then the next place
pub known_pushed : (game : Game) (me : ℕ) (fs : List TurnFrame) (os : List Opening) (f : TurnFrame) (w : IsOwn game me fs os) →
    known_to game me (fs ++ f ∷ []) (length (fs ++ f ∷ [])) ≡ next_known game me (fs ++ f ∷ []) (own_known game os w.c w.r)
unfolding known_to
known_pushed game me fs os f w =
    let l = length-append fs (f ∷ []) in
    let le_c = w.enough in
    let le_r = w.before in
    let n = w.counted in
    let dc = length_own (commitment game.id) w.c os (omega arith) in
    let dr = length_own (λ o. o.mv) w.r os (omega arith) in
    let all : places_in (own_known game os w.c w.r) ≡ length fs = omega arith in
    let there : places_in (known_to game me fs (length fs)) ≡ length fs = ap places_in w.known_is ∙ all in
    let count : length (fs ++ f ∷ []) ≡ suc (length fs) = omega arith in
    ap (known_to game me (fs ++ f ∷ [])) count
    ∙ ap (next_known game me (fs ++ f ∷ [])) (sym (known_to_more game me fs (f ∷ []) (length fs) there) ∙ w.known_is)

pub own_commit : (game : Game) (me : ℕ) (fs : List TurnFrame) (os : List Opening) (p t : ℕ) (d : Digest) (o : Opening) → 1 ≤ game.ahead →
    IsOwn game me fs os → length fs ≡ commit_place game t → slice_get os t ≡ Some o → d ≡ commitment game.id o →
    IsOwn game me (fs ++ Commit p t d ∷ []) os
unfolding has_reveal
own_commit game me fs os p t d o ahead w at there is =
    let below_t = slice_get_within os t o there in
    let le_n = w.few in
    let le_c = w.enough in
    let le_r = w.before in
    let turn = commit_turn game w.c w.r t ahead w.orderly (omega arith) (sym w.counted ∙ at) in
    let there_c : slice_get os w.c ≡ Some o = ap (slice_get os) (sym turn.1) ∙ there in
    let below_c = slice_get_within os w.c o there_c in
    let l = length-append fs (Commit p t d ∷ []) in
    let n = w.counted in
    let same = turn.1 in
    let room = turn.0 in
    let dc = length_own (commitment game.id) w.c os (omega arith) in
    let dr = length_own (λ o. o.mv) w.r os (omega arith) in
    let comes : first_commit (fs ++ Commit p t d ∷ []) (length (own_known game os w.c w.r).digests) ≡ Some d =
    ap (first_commit (fs ++ Commit p t d ∷ [])) dc ∙ first_commit_none fs (Commit p t d ∷ []) w.c (w.commits_end w.c (omega arith))
    ∙ first_true (t == w.c) d None (eq-eqb t w.c turn.1) in
    record {
      c = w.c + 1;
      r = w.r;
      counted = omega arith;
      orderly = commit_orderly game w.c w.r w.orderly turn.0;
      before = omega arith;
      chosen_are = w.chosen_are;
      few = w.few;
      enough = omega arith;
      ready = (let now = w.ready in omega arith);
      legal = w.legal;
      known_is = known_pushed game me fs os (Commit p t d) w
          ∙ next_commit game me (fs ++ Commit p t d ∷ []) (own_known game os w.c w.r) (omega arith)
          ∙ ap (with_commit (own_known game os w.c w.r)) comes
          ∙ known_from _ _ (ap (λ (e : Digest). map (commitment game.id) (take w.c os) ++ e ∷ []) is ∙ sym (map_take_more (commitment game.id) w.c os o there_c)) refl;
      commits_end = λ u h. first_commit_none fs (Commit p t d ∷ []) u (w.commits_end u (omega arith)) ∙ first_false (t == u) d None (ne_eqb t u (λ e. omega arith));
      reveals_end = λ u h. has_reveal_append u fs (Commit p t d ∷ []) ∙ (let ended = w.reveals_end u h in grind arith);
    }

pub own_reveal : (game : Game) (me : ℕ) (fs : List TurnFrame) (os : List Opening) (t : ℕ) (o : Opening) → 1 ≤ game.ahead →
    IsOwn game me fs os → length fs ≡ reveal_place game t → slice_get os t ≡ Some o → o.turn ≡ t →
    IsOwn game me (fs ++ Reveal o.player o.turn o.mv o.nonce ∷ []) os
unfolding has_reveal digest_of
own_reveal game me fs os t o ahead w at there its_turn =
    let f : TurnFrame = Reveal o.player o.turn o.mv o.nonce in
    let below_t = slice_get_within os t o there in
    let le_n = w.few in
    let le_c = w.enough in
    let le_r = w.before in
    let turn = reveal_turn game w.c w.r t ahead w.orderly (omega arith) (sym w.counted ∙ at) in
    let there_r : slice_get os w.r ≡ Some o = ap (slice_get os) (sym turn.2) ∙ there in
    let l = length-append fs (f ∷ []) in
    let n = w.counted in
    let same = turn.2 in
    let room = turn.0 in
    let left = turn.1 in
    let k : Known = own_known game os w.c w.r in
    let dc = length_own (commitment game.id) w.c os (omega arith) in
    let dr : length k.moves ≡ w.r = length_own (λ o. o.mv) w.r os (omega arith) in
    let holds : slice_get k.digests w.r ≡ Some (commitment game.id o) =
    slice_get_map (commitment game.id) (take w.c os) w.r o (slice_get_take w.c w.r os (omega arith) ∙ there_r) in
    let tests = and_from _ _ (and_from _ _ (eq-eqb o.turn w.r (omega arith)) (digest_eq_same (commitment game.id o)))
    (legal_at game me os (start_track game me) w.r o w.legal there_r) in
    let comes : first_opening game me k.moves (commitment game.id o) (fs ++ f ∷ []) w.r ≡ Some o.mv =
    first_opening_none game me k.moves (commitment game.id o) fs (f ∷ []) w.r (w.reveals_end w.r (omega arith)) ∙ first_true _ o.mv None tests in
    let there_now : opened game me k.moves (fs ++ f ∷ []) (length k.moves) (slice_get k.digests (length k.moves)) ≡ Some o.mv =
    ap (λ i. opened game me k.moves (fs ++ f ∷ []) i (slice_get k.digests i)) dr
    ∙ ap (opened game me k.moves (fs ++ f ∷ []) w.r) holds ∙ comes in
    record {
      c = w.c;
      r = w.r + 1;
      counted = omega arith;
      orderly = reveal_orderly game w.c w.r w.orderly turn.0 turn.1;
      before = omega arith;
      chosen_are = w.chosen_are;
      few = w.few;
      enough = w.enough;
      ready = w.ready;
      legal = w.legal;
      known_is = known_pushed game me fs os f w
          ∙ next_reveal game me (fs ++ f ∷ []) k (omega arith) (omega arith)
          ∙ ap (with_move k) there_now
          ∙ known_from _ _ refl (sym (map_take_more (λ o. o.mv) w.r os o there_r));
      commits_end = λ u h. first_commit_none fs (f ∷ []) u (w.commits_end u h);
      reveals_end = λ u h. has_reveal_append u fs (f ∷ []) ∙
          (let ended = w.reveals_end u (omega arith) in let other : (o.turn == u) ≡ false = ne_eqb o.turn u (λ e. omega arith) in grind arith);
    }
