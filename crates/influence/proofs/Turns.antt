-- Turns: a walk that goes on is one longer walk, so the sphere of the cells of some turns is a strike from those of a turn more.
use Rattle.std.proofs.Common.{◌≡◌, ℕ, zero, suc, ◌+◌, ◌*◌, List, true, sym, ap, ◌∙◌, arith, add-mul}
use Rattle.std.specs.Prelude.{Bool, filter, ◌&&◌}
use Rattle.std.specs.List.{list_any}
use Rattle.std.proofs.lemmas.Bool.{and_parts, and_from, lt-ltb}
use Rattle.definitions.specs.declared.world.Cell.{Cell}
use Rattle.definitions.specs.World.{Ground, Game, has_cell, cells_of, is_open, seat_of}
use Rattle.definitions.specs.Walk.{is_step, stepped, walked, reach_of}
use Rattle.definitions.specs.Sphere.{sphere_of}
use Rattle.definitions.proofs.Cells.{has-filter, has-cells}
use Rattle.definitions.proofs.Walks.{walked_open}
use Rattle.cell_set.proofs.CellLists.{filter_cells}
use Rattle.cell_set.specs.Regions.{AreOpen}
use Rattle.plain_lemmas.proofs.Tests.{same_tests}
use Rattle.influence.specs.Strikes.{struck_from}

-- no step leads from open cells, as a test picks them out of the grid, to just these
begun_picked : (grid : Ground) (p : Cell → Bool) → AreOpen grid (filter p (cells_of grid)) → walked grid 0 (filter p (cells_of grid)) ≡ filter p (cells_of grid)
unfolding walked
begun_picked grid p opens =
    filter_cells (λ c. is_open grid c && has_cell (filter p (cells_of grid)) c) p grid.width grid.height
    (λ c wide high. same_tests _ _ (there c) (back c (has-cells grid c ∙ and_from _ _ (lt-ltb c.x grid.width wide) (lt-ltb c.y grid.height high))))
  where
    there : (c : Cell) → (is_open grid c && has_cell (filter p (cells_of grid)) c) ≡ true → p c ≡ true
    there c h =
        let has = and_parts (is_open grid c) (has_cell (filter p (cells_of grid)) c) h in
        (and_parts (p c) (has_cell (cells_of grid) c) (sym (has-filter p (cells_of grid) c) ∙ has.1)).0

    back : (c : Cell) → has_cell (cells_of grid) c ≡ true → p c ≡ true → (is_open grid c && has_cell (filter p (cells_of grid)) c) ≡ true
    back c inside passes =
        let has : has_cell (filter p (cells_of grid)) c ≡ true = has-filter p (cells_of grid) c ∙ and_from _ _ passes inside in
        and_from _ _ (opens c has) has

walked_begun : (grid : Ground) (m : ℕ) (cells : List Cell) → walked grid 0 (walked grid m cells) ≡ walked grid m cells
unfolding walked stepped
walked_begun grid zero cells = begun_picked grid (λ c. is_open grid c && has_cell cells c) (walked_open grid 0 cells)
walked_begun grid (suc m) cells = begun_picked grid (λ c. list_any (λ b. is_step grid b c) (walked grid m cells)) (walked_open grid (suc m) cells)

-- steps on from where steps lead
pub walked_on : (grid : Ground) (n m : ℕ) (cells : List Cell) → walked grid n (walked grid m cells) ≡ walked grid (n + m) cells
unfolding walked
walked_on grid zero m cells = let e : m ≡ 0 + m = omega arith in walked_begun grid m cells ∙ ap (λ k. walked grid k cells) e
walked_on grid (suc n) m cells = let e : suc (n + m) ≡ suc n + m = omega arith in ap (stepped grid) (walked_on grid n m cells) ∙ ap (λ k. walked grid k cells) e

-- what a player that was followed for so many turns can affect in the next is struck from where it can be a turn later
pub sphere_of_reach : (game : Game) (q k : ℕ) (cells : List Cell) → sphere_of game q (reach_of game q k cells) ≡ struck_from game q (reach_of game q (k + 1) cells)
sphere_of_reach game q k cells =
    let speed = (seat_of game q).speed in
    let e : 1 * speed + k * speed ≡ (k + 1) * speed = omega (arith, add-mul k 1 speed) in
    ap (struck_from game q) (walked_on game.grid (1 * speed) (k * speed) cells ∙ ap (λ n. walked game.grid n cells) e)
