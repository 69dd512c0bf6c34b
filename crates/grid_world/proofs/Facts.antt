-- What callers draw from what holds of a grid and of a session.
use Rattle.std.proofs.Common.{◌≡◌, ℕ, zero, suc, ◌<◌, true, false, List, [], ◌∷◌, length, sym, subst, arith, inl, inr}
use Rattle.std.specs.Prelude.{IsTrue}
use Rattle.std.proofs.lemmas.Bool.{or_cases, false≢true}
use Rattle.definitions.specs.declared.world.Cell.{Cell}
use Rattle.definitions.specs.Lists.{EachIs, item_or}
use Rattle.definitions.specs.World.{Ground, Game, cell_eq, has_cell, is_inside, is_wall, is_open, seat_of, no_seat, players_of}
use Rattle.definitions.proofs.Cells.{cell_eq-true}
use Rattle.grid_world.specs.Grids.{IsGrid}
use Rattle.grid_world.specs.Sessions.{IsSession, IsSeat, GoesByTheRules}

-- what holds of each cell holds of one that the list has
each_has : (P : Cell → Type 0) (xs : List Cell) (c : Cell) → EachIs P xs → has_cell xs c ≡ true → P c
each_has P [] c each has = absurd (false≢true has)
each_has P (x ∷ xs) c each has =
    elim (or_cases (cell_eq c x) (has_cell xs c) has) [
      | inl here ↦ subst P (sym (cell_eq-true c x here)) each.0
      | inr later ↦ each_has P xs c each.1 later
    ]

-- a wall is inside
pub wall_inside : (grid : Ground) (c : Cell) → IsGrid grid → is_wall grid c ≡ true → is_inside grid c ≡ true
wall_inside grid c facts wall = each_has (λ d. IsTrue (is_inside grid d)) grid.walls c facts.inside wall

-- outside there is no wall
pub wall_outside : (grid : Ground) (c : Cell) → IsGrid grid → is_inside grid c ≡ false → is_wall grid c ≡ false
wall_outside grid c facts outside = let h = wall_inside grid c facts in grind arith

-- what holds of each item holds of the one at a place
pub each_at : {X : Type 0} (P : X → Type 0) (xs : List X) (d : X) (i : ℕ) → EachIs P xs → i < length xs → P (item_or xs i d)
each_at P [] d i each lt = absurd (omega arith)
each_at P (x ∷ xs) d zero each lt = each.0
each_at P (x ∷ xs) d (suc i) each lt = each_at P xs d i each.1 (omega arith)

-- every player walks and strikes within the limits
pub seat_within : (game : Game) (q : ℕ) → IsSession game → q < players_of game → IsSeat (seat_of game q)
seat_within game q facts lt = each_at IsSeat game.seats no_seat q facts.seats lt

-- in a session of version 1 every player walks and strikes as the rules say
pub seat_by_rules : (game : Game) (q : ℕ) → IsSession game → game.version ≡ 1 → q < players_of game → GoesByTheRules game.rules (seat_of game q)
seat_by_rules game q facts first lt = each_at (GoesByTheRules game.rules) game.seats no_seat q (facts.of_version_1 first).seats lt

-- every player starts on a cell that is inside and no wall
pub seat_open : (game : Game) (q : ℕ) → IsSession game → q < players_of game → IsTrue (is_open game.grid (seat_of game q).start)
seat_open game q facts lt = each_at (λ s. IsTrue (is_open game.grid s.start)) game.seats no_seat q facts.starts lt
