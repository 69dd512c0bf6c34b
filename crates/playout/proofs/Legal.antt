-- Legal: what a legal move says of the charge, and of the move after others.
use Rattle.std.proofs.Common.{◌≡◌, ℕ, zero, suc, ◌<◌, ◌≤◌, List, [], ◌∷◌, length, take, refl, sym, ap, ◌∙◌, arith, subst, get_or, Bool, true, false}
use Rattle.std.specs.Prelude.{Option, Some, None, is_none, not, nat_lt, IfSome, IsTrue, if◌then◌else◌}
use Rattle.std.proofs.lemmas.Bool.{and_parts, false≢true, ltb-false}
use Rattle.definitions.specs.declared.world.Cell.{Cell}
use Rattle.definitions.specs.declared.world.Move.{Move}
use Rattle.definitions.specs.declared.world.MoveFault.{MoveFault}
use Rattle.definitions.specs.declared.world.Track.{Track}
use Rattle.definitions.specs.World.{Game, distance, is_inside, is_wall, seat_of}
use Rattle.definitions.specs.Walk.{in_reach}
use Rattle.definitions.specs.Moves.{IsLegal, is_legal, are_legal_from, next_track, strike_fault, track_from}
use Rattle.playout.specs.Hits.{move_of, no_move}
use Rattle.definitions.proofs.Items.{item_is}

-- the last of three causes doesn't stand
last_passes : (a b c : Bool) (x y z : MoveFault) (o : Option MoveFault) → is_none (if a then Some x else if b then Some y else if c then Some z else o) ≡ true → is_none o ≡ true
last_passes true b c x y z o h = absurd (false≢true h)
last_passes false true c x y z o h = absurd (false≢true h)
last_passes false false true x y z o h = absurd (false≢true h)
last_passes false false false x y z o h = h

third_passes : (a b c : Bool) (x y z : MoveFault) → is_none (if a then Some x else if b then Some y else if c then Some z else None) ≡ true → c ≡ false
third_passes true b c x y z h = absurd (false≢true h)
third_passes false true c x y z h = absurd (false≢true h)
third_passes false false true x y z h = absurd (false≢true h)
third_passes false false false x y z h = refl

strike_paid : (game : Game) (q : ℕ) (track : Track) (to : Cell) (strike : Option Cell) → is_none (strike_fault game q track to strike) ≡ true → IfSome strike (λ c. game.rules.cost ≤ track.charge)
strike_paid game q track to None h = tt
strike_paid game q track to (Some c) h =
    ltb-false track.charge game.rules.cost (third_passes (not (is_inside game.grid c)) (nat_lt (seat_of game q).reach (distance c to)) (nat_lt track.charge game.rules.cost) _ _ _ h)

-- a legal strike is paid for
pub legal_paid : (game : Game) (q : ℕ) (track : Track) (mv : Move) → IsLegal game q track mv → IfSome mv.strike (λ c. game.rules.cost ≤ track.charge)
unfolding is_legal
legal_paid game q track mv h =
    strike_paid game q track mv.to mv.strike (last_passes (not (is_inside game.grid mv.to)) (is_wall game.grid mv.to) (not (in_reach game q track.at mv.to)) _ _ _ _ h)

-- the same of the move that was read
pub read_paid : (game : Game) (moves : List Move) (i q : ℕ) (track : Track) → i ≡ q → IsLegal game q track (move_of moves q) → IfSome (get_or moves i no_move).strike (λ c. game.rules.cost ≤ track.charge)
read_paid game moves i q track same legal =
    subst (λ (mv : Move). IfSome mv.strike (λ c. game.rules.cost ≤ track.charge)) (sym (item_is moves i no_move ∙ ap (move_of moves) same)) (legal_paid game q track (move_of moves q) legal)

-- the track after one move more
pub track_more : (game : Game) (track : Track) (moves : List Move) (n : ℕ) → n < length moves → next_track game (track_from game track (take n moves)) (move_of moves n) ≡ track_from game track (take (suc n) moves)
track_more game track [] n lt = absurd (omega arith)
track_more game track (mv ∷ moves) zero lt = refl
track_more game track (mv ∷ moves) (suc n) lt = track_more game (next_track game track mv) moves n (omega arith)

-- of legal moves each is legal after those before it
pub legal_then : (game : Game) (q : ℕ) (track : Track) (moves : List Move) (n : ℕ) → n < length moves → IsTrue (are_legal_from game q track moves) → IsLegal game q (track_from game track (take n moves)) (move_of moves n)
legal_then game q track [] n lt legal = absurd (omega arith)
legal_then game q track (mv ∷ moves) zero lt legal = (and_parts _ _ legal).0
legal_then game q track (mv ∷ moves) (suc n) lt legal = legal_then game q (next_track game track mv) moves n (omega arith) (and_parts _ _ legal).1
