-- Legal: what a bot decides on an open cell is legal, whichever player it decides for.
use Rattle.std.proofs.Common.{◌≡◌, ℕ, ◌+◌, ◌*◌, ◌/◌, ◌%◌, ◌<◌, ◌≤◌, Bool, true, false, [], ◌∷◌, Option, None, Some, refl, sym, ap, subst, ◌∙◌, arith}
use Rattle.std.specs.Prelude.{◌&&◌, ◌==◌, IsTrue, if◌then◌else◌, nat_le, nat_lt, not}
use Rattle.std.proofs.lemmas.Bool.{and_parts, and_from, le-leb, leb-true, le-ltb, lt-ltb}
use Rattle.rand_pcg.specs.Lcg.{Lcg}
use Rattle.definitions.specs.declared.world.Cell.{Cell}
use Rattle.definitions.specs.declared.world.Track.{Track}
use Rattle.definitions.specs.World.{Game, Ground, distance, has_cell, gap, is_inside, is_open, is_wall, players_of, seat_of}
use Rattle.definitions.specs.Walk.{in_reach, is_step, walked}
use Rattle.definitions.specs.Moves.{is_legal, strike_fault}
use Rattle.definitions.proofs.Walks.{reaches-Walk, walked_at_least}
use Rattle.grid_world.specs.Sessions.{IsSession}
use Rattle.grid_world.proofs.Facts.{seat_within}
use Rattle.pilots.specs.Draws.{draw}
use Rattle.pilots.specs.Choices.{aim, aimed, drift, least_reach, may_aim, may_be_wished, moved, strike_of, struck_cell, target_of}
use Rattle.pilots.proofs.Least.{least_within}

-- a number that is drawn is below the one that is said
pub draw_below : (n : ℕ) (g : Lcg) → 0 < n → (draw n g).0 < n
unfolding draw
draw_below n g lt = omega arith

-- the target is open, and one step away at most
target_near : (grid : Ground) (c : Cell) (d : ℕ) → d < 9 → is_open grid c ≡ true → (is_open grid (target_of grid c d) ≡ true) × (distance c (target_of grid c d) ≤ 1)
unfolding target_of
target_near grid c d lt opens = go (may_be_wished grid c d) refl
  where
    go : (b : Bool) → may_be_wished grid c d ≡ b → (is_open grid (if b then moved c d else c) ≡ true) × (distance c (if b then moved c d else c) ≤ 1)
    go false e = (opens, omega arith)
    go true e =
        let x = and_parts (nat_le 1 (c.x + d % 3)) (nat_le 1 (c.y + d / 3) && is_open grid (moved c d)) e in
        let y = and_parts (nat_le 1 (c.y + d / 3)) (is_open grid (moved c d)) x.1 in
        let right : 1 ≤ c.x + d % 3 = leb-true _ _ x.0 in
        let low : 1 ≤ c.y + d / 3 = leb-true _ _ y.0 in
        (y.1, omega arith)

-- a walk of the player's turn leads to an open cell that is one step away at most
near_in_reach : (game : Game) (q : ℕ) (a b : Cell) → 1 ≤ (seat_of game q).speed → is_open game.grid a ≡ true → is_open game.grid b ≡ true → distance a b ≤ 1 → in_reach game q a b ≡ true
near_in_reach game q a b fast from to close =
    let step : is_step game.grid a b ≡ true = and_from _ _ (and_from _ _ from to) (le-leb _ _ close) in
    let one : has_cell (walked game.grid 1 (a ∷ [])) b ≡ true = reaches-Walk game.grid 1 a b (a, (refl, from), step) in
    walked_at_least game.grid 1 (1 * (seat_of game q).speed) (a ∷ []) b (omega arith) one

-- a number that is aimed at is below the side, and within the reach of a number that is
aimed_inside : (side r n e : ℕ) → 0 < side → aimed side r n e < side
aimed_inside side r n e some = omega arith

aimed_near : (side r n e : ℕ) → n < side → e ≤ 2 * r → gap (aimed side r n e) n ≤ r
aimed_near side r n e lt few = omega arith

-- no cause stands against a strike that is inside, near and paid
strike_passes : (game : Game) (q : ℕ) (track : Track) (to c : Cell) → is_inside game.grid c ≡ true → distance c to ≤ (seat_of game q).reach → game.rules.cost ≤ track.charge
    → strike_fault game q track to (Some c) ≡ None
strike_passes game q track to c inside near paid =
    let far : nat_lt (seat_of game q).reach (distance c to) ≡ false = le-ltb _ _ near in
    let poor : nat_lt track.charge game.rules.cost ≡ false = le-ltb _ _ paid in
    rw (inside, far, poor) refl

-- a struck cell is inside and within the least reach of a target that is inside
struck_near : (game : Game) (to : Cell) (a d : ℕ) → is_inside game.grid to ≡ true → a ≤ 2 * least_reach game → d ≤ 2 * least_reach game
    → (is_inside game.grid (struck_cell game to a d) ≡ true) × (distance (struck_cell game to a d) to ≤ least_reach game)
unfolding struck_cell
struck_near game to a d inside few less =
    let parts = and_parts (nat_lt to.x game.grid.width) (nat_lt to.y game.grid.height) inside in
    let x : to.x < game.grid.width = leb-true _ _ parts.0 in
    let y : to.y < game.grid.height = leb-true _ _ parts.1 in
    let r = least_reach game in
    let across = aimed_near game.grid.width r to.x a x few in
    let down = aimed_near game.grid.height r to.y d y less in
    (and_from _ _ (lt-ltb _ _ (aimed_inside game.grid.width r to.x a (omega arith))) (lt-ltb _ _ (aimed_inside game.grid.height r to.y d (omega arith))), omega (arith, across, down))

-- no cause stands against what a bot strikes
strike_fits : (game : Game) (q : ℕ) (track : Track) (to : Cell) (g : Lcg) → q < players_of game → is_inside game.grid to ≡ true → strike_fault game q track to (strike_of game track.charge to g).0 ≡ None
unfolding strike_of
strike_fits game q track to g known inside = paid (nat_le game.rules.cost track.charge) refl
  where
    aims : (k : Lcg) → game.rules.cost ≤ track.charge → strike_fault game q track to (aim game to k).0 ≡ None
    aims k pays =
        let r = least_reach game in
        let a = (drift game k).0 in
        let d = (drift game (drift game k).1).0 in
        let few = draw_below (2 * r + 1) k (omega arith) in
        let less = draw_below (2 * r + 1) (drift game k).1 (omega arith) in
        let near = struck_near game to a d inside (omega (arith, few)) (omega (arith, less)) in
        let within = least_within game q known in
        strike_passes game q track to (struck_cell game to a d) near.0 (omega (arith, near.1, within)) pays

    drawn : (b : Bool) → game.rules.cost ≤ track.charge → strike_fault game q track to (if b then aim game to (draw 2 g).1 else (None, (draw 2 g).1)).0 ≡ None
    drawn true pays = aims (draw 2 g).1 pays
    drawn false pays = refl

    paid : (b : Bool) → nat_le game.rules.cost track.charge ≡ b → strike_fault game q track to (if b then may_aim game to g else (None, g)).0 ≡ None
    paid true e = drawn ((draw 2 g).0 == 0) (leb-true _ _ e)
    paid false e = refl

-- a move is legal against which no cause stands
legal_from : (game : Game) (q : ℕ) (track : Track) (to : Cell) (s : Option Cell) → is_open game.grid to ≡ true → in_reach game q track.at to ≡ true → strike_fault game q track to s ≡ None
    → is_legal game q track (record { to = to; strike = s }) ≡ true
unfolding is_legal
legal_from game q track to s opens reach fits =
    let parts = and_parts (is_inside game.grid to) (not (is_wall game.grid to)) opens in
    let inside : is_inside game.grid to ≡ true = parts.0 in
    let free : is_wall game.grid to ≡ false = let h = parts.1 in grind arith in
    rw (inside, free, reach, fits) refl

-- what a bot decides on an open cell is legal
pub bot_is_legal : (game : Game) (q : ℕ) (track : Track) (d : ℕ) (g : Lcg) (to : Cell) (s : Option Cell) → IsSession game → q < players_of game → d < 9 → IsTrue (is_open game.grid track.at)
    → to ≡ target_of game.grid track.at d → s ≡ (strike_of game track.charge to g).0 → is_legal game q track (record { to = to; strike = s }) ≡ true
bot_is_legal game q track d g to s facts known drawn opens is strikes =
    let near = target_near game.grid track.at d drawn opens in
    let P : Cell → Type 0 = λ c. (is_open game.grid c ≡ true) × (distance track.at c ≤ 1) in
    let at = subst P (sym is) near in
    let inside = (and_parts (is_inside game.grid to) _ at.0).0 in
    let fast = (seat_within game q facts known).speed.0 in
    legal_from game q track to s at.0 (near_in_reach game q track.at to fast opens at.0 at.1) (ap (strike_fault game q track to) strikes ∙ strike_fits game q track to g known inside)
