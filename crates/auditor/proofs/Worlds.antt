-- Worlds: the play of agreed moves over all turns.
use Rattle.std.proofs.Common.{Bool, Global, List, Vec, None, Some, [], add-zero, ap, arith, refl, subst, suc, sym, true, zero, zero-add, ℕ, ◌+◌, ◌<◌, ◌≤◌, ◌∙◌, ◌∷◌, ◌≡◌, Option, length, map, slice_index_or, IsTrue}
use Rattle.std.specs.Prelude.{◌==◌, Result, if◌then◌else◌, is_err, not}
use Rattle.std.specs.List.{cons_option, list_all, range_with_len}
use Rattle.std.proofs.lemmas.Bool.{and_parts, eqb-true}
use Rattle.std.proofs.lemmas.List.{length-map}
use Rattle.std.proofs.Math.ListN.{get_or-map}
use Rattle.plain_lemmas.proofs.Each.{each_get}
use Rattle.definitions.specs.declared.world.Cell.{Cell}
use Rattle.definitions.specs.declared.world.Move.{Move}
use Rattle.definitions.specs.declared.world.MoveFault.{MoveFault}
use Rattle.definitions.specs.declared.world.Seat.{Seat}
use Rattle.definitions.specs.declared.world.Track.{Track}
use Rattle.definitions.specs.declared.logs.Entry.{Entry}
use Rattle.definitions.specs.Lists.{EachIs, item_or}
use Rattle.definitions.specs.World.{Game, is_open, players_of}
use Rattle.definitions.specs.Moves.{AreLegal, IsLegal, is_legal}
use Rattle.definitions.proofs.Walks.{walked_open}
use Rattle.definitions.proofs.Items.{item_is, map_item}
use Rattle.definition_laws.proofs.Tracks.{legal_in_reach}
use Rattle.definition_laws.proofs.Nexts.{some_at}
use Rattle.playout.specs.declared.standing.Standing.{Standing}
use Rattle.playout.specs.Hits.{move_of, no_move}
use Rattle.playout.specs.Lockstep.{lockstep, moves_of, turn_moves}
use Rattle.move_rules.specs.Verdicts.{verdict}
use Rattle.playout.specs.Playing.{AreLegalNow, IsLockstep, Played, after_turn, no_standing, seated, standing_of}
use Rattle.playout.proofs.Standings.{after_item}
use Rattle.playout.proofs.Items.{item_other}
use Rattle.frame_index.proofs.Opened.{refused_illegal}
use Rattle.evidence.proofs.Showing.{item_there}
use Rattle.auditor.specs.declared.world.WorldLine.{WorldLine}
use Rattle.auditor.specs.Agreed.{agreed_moves, all_agreed_moves, are_whole, line_of, world_by}
use Rattle.auditor.specs.Played.{AreLegalIfWhole, AreOpen, line_at, moves_at}
use Rattle.auditor.proofs.Agreeing.{whole_legal}
use Rattle.auditor.proofs.Picked.{length_range}

pub item_range : {X : Type 0} (f : ℕ → X) (a n i : ℕ) (d : X) → i < n → item_or (map f (range_with_len a n)) i d ≡ f (a + i)
item_range f a zero i d lt = absurd (omega arith)
item_range f a (suc n) zero d lt = ap f (sym (add-zero a))
item_range f a (suc n) (suc i) d lt = item_range f (a + 1) n i d (omega arith) ∙ ap f (let e : a + 1 + i ≡ a + suc i = omega arith in e)

pub whole_each : (n : ℕ) (xs : List (List Move)) → list_all (λ own. length own == n) xs ≡ true → EachIs (λ own. length own ≡ n) xs
whole_each n [] all = tt
whole_each n (x ∷ xs) all = let p = and_parts (length x == n) (list_all (λ own. length own == n) xs) all in (eqb-true (length x) n p.0, whole_each n xs p.1)

-- the moves of each player
pub agreed_item : (game : Game) (owners : List (Option ℕ)) (logs : List (List Entry)) (q : ℕ) → q < players_of game → item_or (all_agreed_moves game owners logs) q [] ≡ agreed_moves game owners logs q
agreed_item game owners logs q lt = item_range (agreed_moves game owners logs) 0 (players_of game) q [] lt ∙ ap (agreed_moves game owners logs) (zero-add q)

pub line_past : (lines : List WorldLine) (q : ℕ) → length lines ≤ q → line_at lines q ≡ None
line_past [] q few = refl
line_past (line ∷ lines) zero few = absurd (omega arith)
line_past (line ∷ lines) (suc q) few = line_past lines q (omega arith)

pub item_length : {X : Type 0} (xs : List (List X)) (q : ℕ) → item_or (map length xs) q 0 ≡ length (item_or xs q [])
item_length {X} xs q =
    let none : List X = [] in
    sym (item_is (map length xs) q 0) ∙ get_or-map length xs q none ∙ ap length (item_is xs q none)

-- the item at a place that is there is the same whatever stands for one that isn't
pub item_any : {X : Type 0} (xs : List X) (i : ℕ) (d e : X) → i < length xs → slice_index_or xs i d ≡ item_or xs i e
item_any xs i d e lt = item_is xs i d ∙ item_other xs i d e lt

-- a move that is refused isn't legal, and one that isn't is
pub refused : (game : Game) (q : ℕ) (track : Track) (m : Move) (r : Result Track MoveFault) (b : Bool) → r ≡ verdict game q track m → b ≡ is_err r → not (is_legal game q track m) ≡ b
refused game q track m r b is e = sym (refused_illegal game q track m) ∙ ap is_err (sym is) ∙ sym e

pub legal_open : (game : Game) (q : ℕ) (track : Track) (m : Move) → IsLegal game q track m → IsTrue (is_open game.grid m.to)
legal_open game q track m legal = walked_open game.grid _ _ _ (legal_in_reach game q track m legal)

-- at the start each player stands on an open cell
pub fresh_open : (game : Game) (seats : List Seat) (q : ℕ) → EachIs (λ s. IsTrue (is_open game.grid s.start)) seats → q < length seats → IsTrue (is_open game.grid (item_or (map (seated game) seats) q no_standing).track.at)
fresh_open game [] q each lt = absurd (omega arith)
fresh_open game (s ∷ ss) zero each lt = each.0
fresh_open game (s ∷ ss) (suc q) each lt = fresh_open game ss q each.1 (omega arith)

-- and behind a turn of legal moves
pub turn_open : (game : Game) (moves : List Move) (p : Played) → length p.standings ≡ players_of game → AreLegalNow game p moves → AreOpen game (after_turn game moves p)
turn_open game moves p long now q lt =
    let at = after_item game moves 0 p.standings q (omega (arith, lt, long)) in
    let one : (0 + q) ≡ q = zero-add q in
    let to : (standing_of (after_turn game moves p) q).track.at ≡ (move_of moves q).to = ap (λ (s : Standing). s.track.at) at ∙ ap (λ (n : ℕ). (move_of moves n).to) one in
    subst (λ (c : Cell). IsTrue (is_open game.grid c)) (sym to) (legal_open game q (standing_of p q).track (move_of moves q) (now.legal q lt))

-- agreed moves of all turns are legal ones
pub agreed_legal : (game : Game) (owners : List (Option ℕ)) (logs : List (List Entry)) → AreLegalIfWhole game (all_agreed_moves game owners logs)
agreed_legal game owners logs whole = record {
  one_each = long;
  each_long = each;
  legal = λ q lt. subst (AreLegal game q) (sym (at q lt)) (whole_legal game owners logs q (ap length (sym (at q lt)) ∙ ap length (sym (item_is all q [])) ∙ each_get (λ own. length own ≡ game.turns) all q [] each (omega (arith, long, lt))));
}
  where
    all : List (List Move)
    all = all_agreed_moves game owners logs

    at : (q : ℕ) → q < players_of game → moves_of all q ≡ agreed_moves game owners logs q
    at q lt = agreed_item game owners logs q lt

    long : length all ≡ players_of game
    long = length-map (range_with_len 0 (players_of game)) (agreed_moves game owners logs) ∙ length_range 0 (players_of game)

    each : EachIs (λ own. length own ≡ game.turns) all
    each = whole_each game.turns all whole

-- where each player has a move of the turn, these are the turn's moves
pub moves_are : (n t : ℕ) (moves : List (List Move)) → EachIs (λ own. length own ≡ n) moves → t < n → moves_at moves t ≡ turn_moves moves t
moves_are n t [] each lt = refl
moves_are n t (own ∷ moves) each lt =
    let m = some_at own t (let e = each.0 in omega arith) in
    ap (λ (o : Option Move). cons_option o (moves_at moves t)) m.1 ∙ (let one = sym (item_there own t m.0 no_move m.1) in let rest = moves_are n t moves each.1 lt in λ i. one i ∷ rest i)

-- the lines of standings are those of the players
pub line_is : (ss : List Standing) (q : ℕ) → q < length ss → line_at (map line_of ss) q ≡ Some (line_of (item_or ss q no_standing))
line_is ss q lt =
    map_item (λ (line : WorldLine). Some line) (map line_of ss) q (line_of no_standing) None (omega (arith, lt, length-map ss line_of))
    ∙ ap (λ (line : WorldLine). Some line) (map_item line_of ss q no_standing (line_of no_standing) lt)

-- lockstep by moves of all turns is the world
pub whole_world : (game : Game) (moves : List (List Move)) (p : Played) (q : ℕ) → are_whole game moves ≡ true → p.turns ≡ game.turns → IsLockstep game moves p → q < players_of game →
    Some (line_of (standing_of p q)) ≡ world_by game moves q
whole_world game moves p q whole turns played lt =
    ap (λ (s : Standing). Some (line_of s)) (played.each q lt ∙ ap (λ (n : ℕ). lockstep game moves n q) turns)
    ∙ ap (λ (b : Bool). if b then Some (line_of (lockstep game moves game.turns q)) else None) (sym whole)

-- how many items these lists have
pub map_lengths : (vs : List (Vec Move Global)) → map (λ v. length v.items) vs ≡ map length (map (λ v. v.items) vs)
map_lengths [] = refl
map_lengths (v ∷ vs) = ap (λ (ns : List ℕ). length v.items ∷ ns) (map_lengths vs)
