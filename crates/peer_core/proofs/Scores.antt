-- Scores: what settled turns count, whatever the players do that the log doesn't show.
use Rattle.std.proofs.Common.{◌≡◌, ℕ, zero, suc, ◌+◌, ◌<◌, ◌≤◌, ◌⊎◌, Bool, true, false, List, [], ◌∷◌, ◌++◌, length, take, refl, sym, ap, ◌∙◌, subst, arith, inl, inr, slice_get}
use Rattle.std.specs.Prelude.{Option, Some, None, is_some, is_none, not, if◌then◌else◌}
use Rattle.std.specs.List.{range_with_len}
use Rattle.std.proofs.lemmas.Bool.{and_parts, false≢true, leb-true, or_cases}
use Rattle.std.proofs.lemmas.Option.{same_Some}
use Rattle.std.proofs.lemmas.List.FromFn.{get_or-map-range_with_len}
use Rattle.std.proofs.lemmas.List.{length-map}
use Rattle.definitions.specs.declared.world.Cell.{Cell}
use Rattle.definitions.specs.declared.world.Move.{Move}
use Rattle.definitions.specs.declared.logs.Entry.{Entry}
use Rattle.definitions.specs.Lists.{item_or}
use Rattle.definitions.specs.World.{Game, players_of}
use Rattle.definitions.specs.Held.{known, resolved, resolved_count}
use Rattle.definitions.specs.Meets.{meets}
use Rattle.definitions.specs.Honest.{IsHonest, lets_commit, others}
use Rattle.definitions.specs.Settled.{is_settled}
use Rattle.definition_laws.specs.Strikes.{GoesOn, Strikes}
use Rattle.definition_laws.proofs.Behind.{Has_others}
use Rattle.definition_laws.proofs.Grows.{known_grows}
use Rattle.definition_laws.proofs.Listing.{none_past, slice_get_front, take_front}
use Rattle.definition_laws.proofs.Members.{list_all_Has}
use Rattle.definition_laws.proofs.Nexts.{known_are_legal, resolved_stays}
use Rattle.definition_laws.proofs.Settling.{revealed_is_resolved}
use Rattle.definition_laws.proofs.Strikes.{who_is_hit_meets}
use Rattle.playout.specs.declared.hits.Score.{Score}
use Rattle.playout.specs.Hits.{between, between_known, move_of, no_move, no_score, own_score, plus, strikes, turn_score}
use Rattle.playout.specs.Laws.{IsThereOrApart}
use Rattle.playout.specs.Lockstep.{AreLegalMoves, lockstep, moves_of, turn_moves}
use Rattle.playout.proofs.Counting.{missing_turn_alike, own_alike, same_score}
use Rattle.playout.proofs.Standings.{each_long}
use Rattle.definitions.proofs.Items.{item_is, map_item}
use Rattle.dilation.proofs.Items.{item_front}
use Rattle.peer_core.specs.Scoring.{Completes, moves_in, own_move, score_in, score_to}
use Rattle.peer_core.specs.Settling.{AreSettled}

-- ---- lists of moves

-- an item that is there is the one at its place
pub there_is : {X : Type 0} (xs : List X) (t : ℕ) (d : X) → t < length xs → slice_get xs t ≡ Some (item_or xs t d)
there_is [] t d lt = absurd (omega arith)
there_is (x ∷ xs) zero d lt = refl
there_is (x ∷ xs) (suc t) d lt = there_is xs t d (omega arith)

-- an item of a list's beginning is the list's
begun_item : {X : Type 0} (xs : List X) (n t : ℕ) (x d : X) → slice_get (take n xs) t ≡ Some x → x ≡ item_or xs t d
begun_item xs zero t x d e = cc
begun_item [] (suc n) t x d e = cc
begun_item (y ∷ xs) (suc n) zero x d e = sym (same_Some y x e)
begun_item (y ∷ xs) (suc n) (suc t) x d e = begun_item xs n t x d e

item_begun : {X : Type 0} (xs : List X) (n t : ℕ) (d : X) → t < n → item_or (take n xs) t d ≡ item_or xs t d
item_begun xs zero t d lt = absurd (omega arith)
item_begun [] (suc n) t d lt = refl
item_begun (y ∷ xs) (suc n) zero d lt = refl
item_begun (y ∷ xs) (suc n) (suc t) d lt = item_begun xs n t d (omega arith)

range_length : (a n : ℕ) → length (range_with_len a n) ≡ n
range_length a zero = refl
range_length a (suc n) = ap suc (range_length (a + 1) n)

-- ---- whom a strike can't hit

is_strike : (game : Game) (s : Option Cell) (at : Cell) → strikes game s at ≡ true → Strikes game s at
is_strike game None at h = absurd (false≢true h)
is_strike game (Some c) at h = leb-true _ _ h

not_true : (b : Bool) → (b ≡ true → ⊥) → b ≡ false
not_true true never = absurd (never refl)
not_true false never = refl

no_hits : (game : Game) (own other : Move) → strikes game own.strike other.to ≡ false → strikes game other.strike own.to ≡ false → between game own other ≡ no_score
no_hits game own other gives takes =
    same_score (between game own other) no_score (ap (λ (b : Bool). if b then 1 else 0) gives) (ap (λ (b : Bool). if b then 1 else 0) takes)

-- where the other player doesn't meet the owner neither hits the other, however they go on
pub apart : (game : Game) (me q t : ℕ) (h : List Entry) (own others : List Move) (mv other : Move) → meets game me h q t ≡ false → t < resolved_count game me h me → resolved_count game me h q ≤ t →
    GoesOn game me h me own → GoesOn game me h q others → slice_get own t ≡ Some mv → slice_get others t ≡ Some other → between game mv other ≡ no_score
apart game me q t h own others mv other none revealed unresolved ours theirs there other_there =
    no_hits game mv other
    (not_true _ (λ hit. false≢true (sym none ∙ who_is_hit_meets game me q t h own others mv other revealed unresolved ours theirs there other_there (inl (is_strike game mv.strike other.to hit)))))
    (not_true _ (λ hit. false≢true (sym none ∙ who_is_hit_meets game me q t h own others mv other revealed unresolved ours theirs there other_there (inr (is_strike game other.strike mv.to hit)))))

not_true_not : (b : Bool) → not b ≡ true → b ≡ false
not_true_not true h = absurd (false≢true h)
not_true_not false h = refl

-- who isn't resolved in a settled turn doesn't meet in it
unresolved_apart : (game : Game) (me q t : ℕ) (h : List Entry) → is_settled game me h t ≡ true → q < players_of game → (q ≡ me → ⊥) → resolved game me h q t ≡ None → meets game me h q t ≡ false
unfolding is_settled
unresolved_apart game me q t h settled lt other none =
    go (or_cases _ _ (list_all_Has (lets_commit game me h t) (others game me) q (and_parts _ _ settled).1 (Has_others game me q lt other)))
  where
    go : (is_some (resolved game me h q t) ≡ true) ⊎ (not (meets game me h q t) ≡ true) → meets game me h q t ≡ false
    go (inl some) = absurd (false≢true (ap (λ (o : Option Move). is_some o) (sym none) ∙ some))
    go (inr apart) = not_true_not _ apart

past : (xs : List Move) (t : ℕ) → slice_get xs t ≡ None → length xs ≤ t
past xs t none = none_past xs t (ap (λ (o : Option Move). is_none o) none)

-- the owner has resolved what is settled
pub settled_revealed : (game : Game) (me t : ℕ) (h : List Entry) → 1 ≤ game.ahead → IsHonest game me h → is_settled game me h t ≡ true → t < resolved_count game me h me
unfolding is_settled
settled_revealed game me t h d i settled = revealed_is_resolved game me t h d i (and_parts _ _ settled).0

-- ---- the moves that are there

pub moves_length : (game : Game) (me : ℕ) (h : List Entry) (t : ℕ) → length (moves_in game me h t) ≡ players_of game
moves_length game me h t = length-map (range_with_len 0 (players_of game)) (λ q. resolved game me h q t) ∙ range_length 0 (players_of game)

pub moves_item : (game : Game) (me : ℕ) (h : List Entry) (t q : ℕ) → q < players_of game → item_or (moves_in game me h t) q None ≡ resolved game me h q t
moves_item game me h t q lt =
    sym (item_is (moves_in game me h t) q None) ∙ get_or-map-range_with_len (λ q. resolved game me h q t) 0 (players_of game) q q None lt (omega arith)

-- ---- against all players

-- a settled turn counts what it counts for the owner where all play it
pub settled_turn : (game : Game) (me t : ℕ) (h : List Entry) (all : List (List Move)) → 1 ≤ game.ahead → IsHonest game me h → me < players_of game → is_settled game me h t ≡ true → t < game.turns →
    Completes game me h all → score_in game me h t ≡ turn_score game (turn_moves all t) me
settled_turn game me t h all d i my settled within goes =
    ap (λ (mv : Move). own_score game me mv (moves_in game me h t)) own_is
    ∙ missing_turn_alike game moves (moves_in game me h t) me (moves_length game me h t ∙ sym one_each) (λ q lt other. each q (omega (arith, one_each)) other)
  where
    played : AreLegalMoves game all game.turns
    played = goes.played

    moves : List Move
    moves = turn_moves all t

    one_each : length moves ≡ players_of game
    one_each = length-map all (λ (own : List Move). move_of own t) ∙ played.one_each

    revealed : t < resolved_count game me h me
    revealed = settled_revealed game me t h d i settled

    item : (q : ℕ) → q < players_of game → move_of moves q ≡ move_of (moves_of all q) t
    item q lt = let one = played.one_each in map_item (λ (own : List Move). move_of own t) all q [] no_move (omega arith)

    own_is : own_move game me h t ≡ move_of moves me
    own_is =
        ap (λ (ms : List Move). move_of ms t) (sym (goes.begins me my)) ∙ item_begun (moves_of all me) (resolved_count game me h me) t no_move revealed ∙ sym (item me my)

    goes_on : (q : ℕ) → q < players_of game → GoesOn game me h q (moves_of all q)
    goes_on q lt = record { begins = goes.begins q lt; legal = played.legal q lt }

    there : (q : ℕ) → q < players_of game → slice_get (moves_of all q) t ≡ Some (move_of moves q)
    there q lt =
        let one = played.one_each in
        let long = each_long all game.turns q (omega arith) played.each_long in
        there_is (moves_of all q) t no_move (omega arith) ∙ ap (λ (mv : Move). Some mv) (sym (item q lt))

    each : (q : ℕ) → q < players_of game → (q ≡ me → ⊥) → IsThereOrApart game (move_of moves me) (move_of moves q) (item_or (moves_in game me h t) q None)
    each q lt other =
        subst (λ (o : Option Move). IsThereOrApart game (move_of moves me) (move_of moves q) o) (sym (moves_item game me h t q lt)) (go (resolved game me h q t) refl)
      where
        go : (o : Option Move) → resolved game me h q t ≡ o → IsThereOrApart game (move_of moves me) (move_of moves q) o
        go None e =
            apart game me q t h (moves_of all me) (moves_of all q) (move_of moves me) (move_of moves q) (unresolved_apart game me q t h settled lt other e) revealed
            (past (known game me h q).moves t e) (goes_on me my) (goes_on q lt) (there me my) (there q lt)
        go (Some mv) e =
            begun_item (moves_of all q) (resolved_count game me h q) t mv no_move (ap (λ (ms : List Move). slice_get ms t) (goes.begins q lt) ∙ e) ∙ sym (item q lt)

-- settled turns count what they count for the owner where all play them
pub settled_turns : (game : Game) (me n : ℕ) (h : List Entry) (all : List (List Move)) → 1 ≤ game.ahead → IsHonest game me h → me < players_of game → n ≤ game.turns → AreSettled game me h n →
    Completes game me h all → score_to game me h n ≡ (lockstep game all n me).score
unfolding score_to lockstep
settled_turns game me zero h all d i my le settled goes = refl
settled_turns game me (suc n) h all d i my le settled goes =
    ap (λ (s : Score). plus s (score_in game me h n)) (settled_turns game me n h all d i my (omega arith) (λ t lt. settled t (omega arith)) goes)
    ∙ ap (plus (lockstep game all n me).score) (settled_turn game me n h all d i my (settled n (omega arith)) (omega arith) goes)

-- ---- as the log grows

-- what is resolved goes on to what is resolved of a longer log
known_goes_on : (game : Game) (me q : ℕ) (g h : List Entry) → GoesOn game me g q (known game me (g ++ h) q).moves
known_goes_on game me q g h =
    let more = known_grows game me q g h in
    record {
      begins = ap (take (resolved_count game me g q)) more.moves_are ∙ take_front (known game me g q).moves more.moves_after;
      legal = known_are_legal game me q (g ++ h);
    }

-- a settled turn counts the same of a longer log
pub settled_same : (game : Game) (me t : ℕ) (g h : List Entry) → 1 ≤ game.ahead → IsHonest game me g → me < players_of game → is_settled game me g t ≡ true →
    score_in game me (g ++ h) t ≡ score_in game me g t
settled_same game me t g h d i my settled =
    ap (λ (mv : Move). own_score game me mv (moves_in game me (g ++ h) t)) own_is
    ∙ own_alike game me own 0 (moves_in game me (g ++ h) t) (moves_in game me g t) (moves_length game me (g ++ h) t ∙ sym (moves_length game me g t))
    (λ q lt other. each q (omega (arith, moves_length game me (g ++ h) t)) (λ e. other (omega arith)))
  where
    own : Move
    own = own_move game me g t

    revealed : t < resolved_count game me g me
    revealed = settled_revealed game me t g d i settled

    own_is : own_move game me (g ++ h) t ≡ own
    own_is =
        let more = known_grows game me me g h in
        ap (λ (ms : List Move). move_of ms t) more.moves_are ∙ item_front (known game me g me).moves more.moves_after t no_move revealed

    own_there : slice_get (known game me (g ++ h) me).moves t ≡ Some own
    own_there =
        let more = known_grows game me me g h in
        ap (λ (ms : List Move). slice_get ms t) more.moves_are ∙ slice_get_front (known game me g me).moves more.moves_after t own (there_is (known game me g me).moves t no_move revealed)

    later : (q : ℕ) → q < players_of game → (q ≡ me → ⊥) → resolved game me g q t ≡ None → (o : Option Move) → resolved game me (g ++ h) q t ≡ o → between_known false game own o ≡ no_score
    later q lt other none None e = refl
    later q lt other none (Some mv) e =
        apart game me q t g (known game me (g ++ h) me).moves (known game me (g ++ h) q).moves own mv (unresolved_apart game me q t g settled lt other none) revealed
        (past (known game me g q).moves t none) (known_goes_on game me me g h) (known_goes_on game me q g h) own_there e

    by_resolved : (q : ℕ) → q < players_of game → (q ≡ me → ⊥) → (o : Option Move) → resolved game me g q t ≡ o → between_known false game own (resolved game me (g ++ h) q t) ≡ between_known false game own o
    by_resolved q lt other None e = later q lt other e (resolved game me (g ++ h) q t) refl
    by_resolved q lt other (Some mv) e = ap (between_known false game own) (resolved_stays game me q t g h mv e)

    each : (q : ℕ) → q < players_of game → (q ≡ me → ⊥) →
        between_known false game own (item_or (moves_in game me (g ++ h) t) q None) ≡ between_known false game own (item_or (moves_in game me g t) q None)
    each q lt other =
        ap (between_known false game own) (moves_item game me (g ++ h) t q lt) ∙ by_resolved q lt other (resolved game me g q t) refl
        ∙ ap (between_known false game own) (sym (moves_item game me g t q lt))

-- and so do all of them
pub scores_stay : (game : Game) (me n : ℕ) (g h : List Entry) → 1 ≤ game.ahead → IsHonest game me g → me < players_of game → AreSettled game me g n → score_to game me (g ++ h) n ≡ score_to game me g n
unfolding score_to
scores_stay game me zero g h d i my settled = refl
scores_stay game me (suc n) g h d i my settled =
    ap (λ (s : Score). plus s (score_in game me (g ++ h) n)) (scores_stay game me n g h d i my (λ t lt. settled t (omega arith)))
    ∙ ap (plus (score_to game me g n)) (settled_same game me n g h d i my (settled n (omega arith)))
