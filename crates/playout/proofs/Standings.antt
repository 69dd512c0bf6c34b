-- Standings: each player's track and score, one after another, and in lockstep.
use Rattle.std.proofs.Common.{◌≡◌, ℕ, zero, suc, ◌+◌, ◌*◌, ◌<◌, ◌≤◌, List, [], ◌∷◌, ◌++◌, length, take, drop, refl, sym, ap, ◌∙◌, arith, subst, get_or, append_assoc, inl, inr}
use Rattle.std.specs.Prelude.{map, slice_set}
use Rattle.std.proofs.lemmas.List.{drop_more, drop-set-lt, length-map, take_all, take_more_set}
use Rattle.std.proofs.lemmas.Bool.{cases_lt}
use Rattle.definitions.specs.declared.world.Move.{Move}
use Rattle.definitions.specs.declared.world.Seat.{Seat}
use Rattle.definitions.specs.declared.world.Track.{Track}
use Rattle.definitions.specs.declared.limits.TheConstants.{MOST_TURNS}
use Rattle.definitions.specs.Lists.{EachIs, item_or}
use Rattle.definitions.specs.World.{Game, no_seat, players_of}
use Rattle.definitions.specs.Moves.{IsLegal, next_track, start_track, track_after}
use Rattle.definitions.proofs.Items.{map_item}
use Rattle.playout.specs.declared.standing.Standing.{Standing}
use Rattle.playout.specs.Hits.{no_move, move_of}
use Rattle.playout.specs.Lockstep.{AreLegalMoves, at_start, lockstep, moves_of, standing_after, turn_moves}
use Rattle.playout.specs.Playing.{AreLegalNow, IsLockstep, Played, after_turn, all_after, fresh, no_standing, seated, standing_of}
use Rattle.playout.specs.Bounds.{IsBelow, IsCounted}
use Rattle.playout.proofs.Items.{item_past, map_more}
use Rattle.playout.proofs.Counting.{among_few}
use Rattle.playout.proofs.Legal.{legal_then, track_more}

-- ---- at the start

-- the first n players at their starts, and one more
abbrev pub first_seated : Game → ℕ → List Standing
first_seated game n = map (seated game) (take n game.seats)

pub seated_more : (game : Game) (n : ℕ) (s : Standing) (before after : List Standing) → n < players_of game → s ≡ at_start game n → before ≡ first_seated game n →
    after ≡ before ++ s ∷ [] → after ≡ first_seated game (n + 1)
seated_more game n s before after lt is so_far more =
    more ∙ ap (λ (ss : List Standing). ss ++ s ∷ []) so_far ∙ ap (λ (x : Standing). first_seated game n ++ x ∷ []) is ∙ map_more (seated game) game.seats n no_seat lt

pub seated_all : (game : Game) (n : ℕ) → n ≡ players_of game → first_seated game n ≡ map (seated game) game.seats
seated_all game n e = ap (first_seated game) e ∙ ap (map (seated game)) (take_all (length game.seats) game.seats (omega arith))

pub fresh_lockstep : (game : Game) (moves : List (List Move)) → IsLockstep game moves (fresh game)
unfolding lockstep
fresh_lockstep game moves = record {
  one_each = length-map game.seats (seated game);
  each = λ q lt. map_item (seated game) game.seats q no_seat no_standing lt;
}

-- ---- a turn

-- one player more was played
pub played_more : (game : Game) (moves : List Move) (p : ℕ) (ss : List Standing) (d v : Standing) (all : List Standing) → p < length ss → v ≡ standing_after game moves p (get_or ss p d) →
    take p ss ++ all_after game moves p (drop p ss) ≡ all →
    take (p + 1) (slice_set ss p v) ++ all_after game moves (p + 1) (drop (p + 1) (slice_set ss p v)) ≡ all
played_more game moves p ss d v all lt is so_far =
    let rest : List Standing = drop (p + 1) ss in
    let same : drop (p + 1) (slice_set ss p v) ≡ rest = drop-set-lt (p + 1) ss p v (omega arith) in
    ap (λ xs. xs ++ all_after game moves (p + 1) (drop (p + 1) (slice_set ss p v))) (take_more_set ss p v lt)
    ∙ ap (λ xs. (take p ss ++ v ∷ []) ++ all_after game moves (p + 1) xs) same
    ∙ append_assoc (take p ss) (v ∷ []) (all_after game moves (p + 1) rest)
    ∙ ap (λ (x : Standing). take p ss ++ x ∷ all_after game moves (p + 1) rest) is
    ∙ ap (λ xs. take p ss ++ all_after game moves p xs) (sym (drop_more ss p d lt)) ∙ so_far

pub after_item : (game : Game) (moves : List Move) (p : ℕ) (ss : List Standing) (q : ℕ) → q < length ss → item_or (all_after game moves p ss) q no_standing ≡ standing_after game moves (p + q) (item_or ss q no_standing)
after_item game moves p [] q lt = absurd (omega arith)
after_item game moves p (s ∷ ss) zero lt = ap (λ n. standing_after game moves n s) (omega arith)
after_item game moves p (s ∷ ss) (suc q) lt =
    let e : p + 1 + q ≡ p + suc q = omega arith in
    after_item game moves (p + 1) ss q (omega arith) ∙ ap (λ n. standing_after game moves n (item_or ss q no_standing)) e

pub after_length : (game : Game) (moves : List Move) (p : ℕ) (ss : List Standing) → length (all_after game moves p ss) ≡ length ss
after_length game moves p [] = refl
after_length game moves p (s ∷ ss) = ap suc (after_length game moves (p + 1) ss)

omega_zero : (q : ℕ) → 0 + q ≡ q
omega_zero q = omega arith

-- a turn of the lists is one turn more of lockstep
pub turn_lockstep : (game : Game) (all : List (List Move)) (moves : List Move) (p : Played) → IsLockstep game all p → moves ≡ turn_moves all p.turns → IsLockstep game all (after_turn game moves p)
unfolding lockstep
turn_lockstep game all moves p so_far is = record {
  one_each = after_length game moves 0 p.standings ∙ so_far.one_each;
  each = λ q lt.
      let long : q < length p.standings = omega (arith, so_far.one_each) in
      let e : p.turns + 1 ≡ suc p.turns = omega arith in
      let here : standing_of (after_turn game moves p) q ≡ standing_after game moves q (standing_of p q) = after_item game moves 0 p.standings q long ∙ ap (λ n. standing_after game moves n (standing_of p q)) (omega_zero q) in
      here ∙ ap (standing_after game moves q) (so_far.each q lt)
      ∙ ap (λ (ms : List Move). standing_after game ms q (lockstep game all p.turns q)) is
      ∙ ap (λ n. lockstep game all n q) (sym e);
}

-- the same of a playout with these fields
pub fields_lockstep : (game : Game) (all : List (List Move)) (moves : List Move) (turns : ℕ) (ss new : List Standing) (p : Played) → record { turns = turns; standings = ss } ≡ p →
    new ≡ all_after game moves 0 ss → IsLockstep game all p → moves ≡ turn_moves all p.turns → IsLockstep game all (record { turns = turns + 1; standings = new })
fields_lockstep game all moves turns ss new p view is so_far turn =
    let P : Played → Type 0 = IsLockstep game all in
    let same : after_turn game moves p ≡ record { turns = turns + 1; standings = new }
    = ap (after_turn game moves) (sym view) ∙ ap (λ xs. record { turns = turns + 1; standings = xs }) (sym is) in
    subst P same (turn_lockstep game all moves p so_far turn)

-- ---- what is counted stays below the bounds

none_below : (most : ℕ) → IsBelow (1 + most) no_standing
none_below most = record { given = omega arith; taken = omega arith }

seated_below : (game : Game) (seat : Seat) → IsBelow 1 (seated game seat)
seated_below game seat = record { given = omega arith; taken = omega arith }

pub fresh_counted : (game : Game) (ss : List Standing) → ss ≡ map (seated game) game.seats → IsCounted 0 ss
fresh_counted game ss is = record {
  few = omega arith;
  below = λ q. subst (λ (xs : List Standing). IsBelow 1 (item_or xs q no_standing)) (sym is) (elim (cases_lt q (length game.seats)) [
    | inl lt ↦ subst (IsBelow 1) (sym (map_item (seated game) game.seats q no_seat no_standing lt)) (seated_below game (item_or game.seats q no_seat))
    | inr le ↦ subst (IsBelow 1) (sym (item_past (map (seated game) game.seats) q no_standing (omega (arith, length-map game.seats (seated game))))) (none_below 0)
  ]);
}

after_below : (game : Game) (moves : List Move) (q most : ℕ) (s : Standing) → length moves ≤ 64 → IsBelow (1 + most) s → IsBelow (1 + (most + 64)) (standing_after game moves q s)
after_below game moves q most s few below =
    let more = among_few game q (move_of moves q) 0 moves in
    record { given = omega (arith, below.given, more.0); taken = omega (arith, below.taken, more.1) }

pub turn_counted : (game : Game) (moves : List Move) (turns : ℕ) (ss new : List Standing) → length moves ≤ 64 → turns < MOST_TURNS → IsCounted turns ss → new ≡ all_after game moves 0 ss → IsCounted (turns + 1) new
turn_counted game moves turns ss new few left counted is = record {
  few = omega arith;
  below = λ q.
      let e : 1 + (64 * turns + 64) ≡ 1 + 64 * (turns + 1) = omega arith in
      subst (λ (xs : List Standing). IsBelow (1 + 64 * (turns + 1)) (item_or xs q no_standing)) (sym is) (elim (cases_lt q (length ss)) [
        | inl lt ↦ subst (IsBelow (1 + 64 * (turns + 1))) (sym (after_item game moves 0 ss q lt))
            (subst (λ n. IsBelow n (standing_after game moves (0 + q) (item_or ss q no_standing))) e (after_below game moves (0 + q) (64 * turns) (item_or ss q no_standing) few (counted.below q)))
        | inr le ↦ subst (IsBelow (1 + 64 * (turns + 1))) (sym (item_past (all_after game moves 0 ss) q no_standing (omega (arith, after_length game moves 0 ss)))) (none_below (64 * (turns + 1)))
      ]);
}

-- ---- in lockstep

move_there : (all : List (List Move)) (t q : ℕ) → q < length all → move_of (turn_moves all t) q ≡ move_of (moves_of all q) t
move_there all t q lt = map_item (λ (own : List Move). move_of own t) all q [] no_move lt

pub stands_by_moves : (game : Game) (all : List (List Move)) (n q : ℕ) → q < length all → n ≤ length (moves_of all q) → (lockstep game all n q).track ≡ track_after game q (take n (moves_of all q))
unfolding lockstep
stands_by_moves game all zero q lt le = refl
stands_by_moves game all (suc n) q lt le =
    ap (λ (t : Track). next_track game t (move_of (turn_moves all n) q)) (stands_by_moves game all n q lt (omega arith))
    ∙ ap (next_track game (track_after game q (take n (moves_of all q)))) (move_there all n q lt)
    ∙ track_more game (start_track game q) (moves_of all q) n (omega arith)

pub each_long : (all : List (List Move)) (most q : ℕ) → q < length all → EachIs (λ own. length own ≡ most) all → length (moves_of all q) ≡ most
each_long [] most q lt each = absurd (omega arith)
each_long (own ∷ all) most zero lt each = each.0
each_long (own ∷ all) most (suc q) lt each = each_long all most q (omega arith) each.1

pub legal_played : (game : Game) (all : List (List Move)) (most : ℕ) (p : Played) → AreLegalMoves game all most → IsLockstep game all p → p.turns < most → AreLegalNow game p (turn_moves all p.turns)
legal_played game all most p are so_far few = record {
  one_each = length-map all (λ (own : List Move). move_of own p.turns) ∙ are.one_each;
  legal = λ q lt.
      let here : q < length all = omega (arith, are.one_each) in
      let long : length (moves_of all q) ≡ most = each_long all most q here are.each_long in
      subst (λ (mv : Move). IsLegal game q (standing_of p q).track mv) (sym (move_there all p.turns q here))
      (subst (λ (t : Track). IsLegal game q t (move_of (moves_of all q) p.turns))
      (sym (ap (λ (s : Standing). s.track) (so_far.each q lt) ∙ stands_by_moves game all p.turns q here (omega arith)))
      (legal_then game q (start_track game q) (moves_of all q) p.turns (omega arith) (are.legal q lt)));
}
