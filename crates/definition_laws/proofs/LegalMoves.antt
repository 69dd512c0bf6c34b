-- LegalMoves: which moves are legal, in the words of walks and distances.
use Rattle.std.proofs.Common.{Bool, List, None, Some, [], arith, false, refl, subst, sym, true, ℕ, ◌*◌, ◌∷◌, ◌≡◌, Option}
use Rattle.std.specs.Prelude.{if◌then◌else◌, is_none, nat_lt, not}
use Rattle.std.proofs.lemmas.Bool.{and_parts, false≢true, le-ltb, ltb-false}
use Rattle.definitions.specs.declared.world.Cell.{Cell}
use Rattle.definitions.specs.declared.world.Move.{Move}
use Rattle.definitions.specs.declared.world.Track.{Track}
use Rattle.definitions.specs.declared.world.MoveFault.{MoveFault}
use Rattle.definitions.specs.declared.frames.TurnFrame.{TurnFrame}
use Rattle.definitions.specs.declared.frames.TurnFrame.TheVariants.{Commit, Reveal}
use Rattle.definitions.specs.World.{Game, distance, is_inside, is_wall, seat_of}
use Rattle.definitions.specs.Walk.{Walk, in_reach}
use Rattle.definitions.specs.Moves.{is_legal, strike_fault, track_after}
use Rattle.definitions.specs.Findings.{is_illegal_after}
use Rattle.definitions.proofs.Walks.{Walk-from, reaches-Walk, walked_open}
use Rattle.definition_laws.specs.Distances.{IsLegalMove, IsLegalStrike}
use Rattle.definition_laws.specs.Illegals.{is_illegal_from}

-- no cause stands
all_pass : (a b c : Bool) (x y z : MoveFault) (o : Option MoveFault) → is_none (if not a then Some x else if b then Some y else if not c then Some z else o) ≡ true →
    (a ≡ true) × (b ≡ false) × (c ≡ true) × (is_none o ≡ true)
all_pass true false true x y z o h = (refl, refl, refl, h)
all_pass false b c x y z o h = absurd (false≢true h)
all_pass true true c x y z o h = absurd (false≢true h)
all_pass true false false x y z o h = absurd (false≢true h)

pass_all : (a b c : Bool) (x y z : MoveFault) (o : Option MoveFault) → a ≡ true → b ≡ false → c ≡ true → is_none o ≡ true →
    is_none (if not a then Some x else if b then Some y else if not c then Some z else o) ≡ true
pass_all true false true x y z o p q r h = h
pass_all false b c x y z o p q r h = absurd (false≢true p)
pass_all true true c x y z o p q r h = absurd (false≢true (sym q))
pass_all true false false x y z o p q r h = absurd (false≢true r)

three_pass : (a b c : Bool) (x y z : MoveFault) → is_none (if not a then Some x else if b then Some y else if c then Some z else None) ≡ true → (a ≡ true) × (b ≡ false) × (c ≡ false)
three_pass true false false x y z h = (refl, refl, refl)
three_pass false b c x y z h = absurd (false≢true h)
three_pass true true c x y z h = absurd (false≢true h)
three_pass true false true x y z h = absurd (false≢true h)

pass_three : (a b c : Bool) (x y z : MoveFault) → a ≡ true → b ≡ false → c ≡ false → is_none (if not a then Some x else if b then Some y else if c then Some z else None) ≡ true
pass_three true false false x y z p q r = refl
pass_three false b c x y z p q r = absurd (false≢true p)
pass_three true true c x y z p q r = absurd (false≢true (sym q))
pass_three true false true x y z p q r = absurd (false≢true (sym r))

strike_is : (game : Game) (q : ℕ) (track : Track) (to : Cell) (s : Option Cell) → is_none (strike_fault game q track to s) ≡ true → IsLegalStrike game q track to s
strike_is game q track to None h = tt
strike_is game q track to (Some c) h =
    let w = three_pass (is_inside game.grid c) (nat_lt (seat_of game q).reach (distance c to)) (nat_lt track.charge game.rules.cost) _ _ _ h in
    (w.0, ltb-false _ _ w.1, ltb-false _ _ w.2)

is_strike : (game : Game) (q : ℕ) (track : Track) (to : Cell) (s : Option Cell) → IsLegalStrike game q track to s → is_none (strike_fault game q track to s) ≡ true
is_strike game q track to None w = refl
is_strike game q track to (Some c) w =
    pass_three (is_inside game.grid c) (nat_lt (seat_of game q).reach (distance c to)) (nat_lt track.charge game.rules.cost) _ _ _ w.0 (le-ltb _ _ w.1) (le-ltb _ _ w.2)

one_turn : (n : ℕ) → 1 * n ≡ n
one_turn n = omega arith

-- a legal move by a walk, and a strike within reach that the charge pays
pub legal_is_walk : (game : Game) (q : ℕ) (track : Track) (m : Move) → is_legal game q track m ≡ true → IsLegalMove game q track m
unfolding is_legal
legal_is_walk game q track m h =
    let w = all_pass (is_inside game.grid m.to) (is_wall game.grid m.to) (in_reach game q track.at m.to) _ _ _ (strike_fault game q track m.to m.strike) h in
    let P : ℕ → Type 0 = λ j. Walk game.grid j track.at m.to in
    record {
      walk = subst P (one_turn (seat_of game q).speed) (Walk-from game.grid (1 * (seat_of game q).speed) track.at m.to w.2);
      strike = strike_is game q track m.to m.strike w.3;
    }

not_not : (b : Bool) → not b ≡ true → b ≡ false
not_not true h = absurd (false≢true h)
not_not false h = refl

pub walk_is_legal : (game : Game) (q : ℕ) (track : Track) (m : Move) → IsLegalMove game q track m → is_legal game q track m ≡ true
unfolding is_legal
walk_is_legal game q track m w =
    let P : ℕ → Type 0 = λ j. Walk game.grid j track.at m.to in
    let there : in_reach game q track.at m.to ≡ true = reaches-Walk game.grid (1 * (seat_of game q).speed) track.at m.to (subst P (sym (one_turn (seat_of game q).speed)) w.walk) in
    let opens = and_parts (is_inside game.grid m.to) (not (is_wall game.grid m.to)) (walked_open game.grid (1 * (seat_of game q).speed) (track.at ∷ []) m.to there) in
    pass_all (is_inside game.grid m.to) (is_wall game.grid m.to) (in_reach game q track.at m.to) _ _ _ (strike_fault game q track m.to m.strike) opens.0 (not_not _ opens.1) there
    (is_strike game q track m.to m.strike w.strike)

-- a reveal is illegal after some moves where its move isn't legal from the track that they lead to
pub illegal_after_track : (game : Game) (q : ℕ) (ms : List Move) (f : TurnFrame) → is_illegal_after game q ms f ≡ is_illegal_from game q (track_after game q ms) f
illegal_after_track game q ms (Commit p u d) = refl
illegal_after_track game q ms (Reveal p u m n) = refl
