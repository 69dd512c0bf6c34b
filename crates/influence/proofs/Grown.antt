-- Growth step by step: as many steps from a set lead where walks of that length do.
use Rattle.std.proofs.Common.{◌≡◌, ℕ, zero, suc, ◌+◌, ◌*◌, ◌≤◌, true, List, refl, sym, ap, ◌∙◌, arith}
use Rattle.std.specs.Prelude.{filter, ◌&&◌, nat_le}
use Rattle.std.specs.List.{list_any}
use Rattle.std.proofs.lemmas.Bool.{and_parts, and_from}
use Rattle.definitions.specs.declared.world.Cell.{Cell}
use Rattle.definitions.specs.World.{Ground, Game, has_cell, cells_in, is_open, distance, seat_of}
use Rattle.definitions.specs.Walk.{is_step, stepped, walked, reach_of}
use Rattle.definitions.specs.Sphere.{spread, sphere_of}
use Rattle.definitions.proofs.Cells.{any-cell, any-from}
use Rattle.definitions.proofs.Walks.{has-begun, walked_open}
use Rattle.cell_set.proofs.CellLists.{filter_cells}
use Rattle.cell_set.specs.Regions.{Region, IsSizeOf, AreOpen, ground_of, with_cells}
use Rattle.influence.specs.Strikes.{struck_from}
use Rattle.plain_lemmas.proofs.Tests.{same_tests}

-- the cells after so many growths by a step
unfoldable pub grown : Ground → ℕ → List Cell → List Cell
grown grid zero cells = cells
grown grid (suc k) cells = stepped grid (grown grid k cells)

-- a step leads to the same cells from a set and from its open cells
stepped_begun : (grid : Ground) (cells : List Cell) → stepped grid cells ≡ stepped grid (walked grid 0 cells)
unfolding stepped
stepped_begun grid cells =
    filter_cells (λ c. list_any (λ b. is_step grid b c) cells) (λ c. list_any (λ b. is_step grid b c) (walked grid 0 cells)) grid.width grid.height
    (λ c wide high. same_tests _ _ (there c) (back c))
  where
    there : (c : Cell) → list_any (λ b. is_step grid b c) cells ≡ true → list_any (λ b. is_step grid b c) (walked grid 0 cells) ≡ true
    there c h =
        let f = any-cell (λ b. is_step grid b c) cells h in
        let both = and_parts (is_open grid f.0 && is_open grid c) (nat_le (distance f.0 c) 1) f.2 in
        let opens = and_parts (is_open grid f.0) (is_open grid c) both.0 in
        any-from (λ b. is_step grid b c) (walked grid 0 cells) f.0 (has-begun grid cells f.0 ∙ and_from _ _ opens.0 f.1) f.2

    back : (c : Cell) → list_any (λ b. is_step grid b c) (walked grid 0 cells) ≡ true → list_any (λ b. is_step grid b c) cells ≡ true
    back c h =
        let f = any-cell (λ b. is_step grid b c) (walked grid 0 cells) h in
        let has = and_parts (is_open grid f.0) (has_cell cells f.0) (sym (has-begun grid cells f.0) ∙ f.1) in
        any-from (λ b. is_step grid b c) cells f.0 has.1 f.2

-- from one step on, growths lead where walks do
pub grown_walked : (grid : Ground) (k : ℕ) (cells : List Cell) → grown grid (suc k) cells ≡ walked grid (suc k) cells
unfolding grown walked
grown_walked grid zero cells = stepped_begun grid cells
grown_walked grid (suc k) cells = ap (stepped grid) (grown_walked grid k cells)

pub grown_some : (grid : Ground) (k : ℕ) (cells : List Cell) → 1 ≤ k → grown grid k cells ≡ walked grid k cells
grown_some grid zero cells h = absurd (omega arith)
grown_some grid (suc k) cells h = grown_walked grid k cells

pub grown_more : (grid : Ground) (k : ℕ) (cells : List Cell) → stepped grid (grown grid k cells) ≡ grown grid (k + 1) cells
unfolding grown
grown_more grid k cells = let e : suc k ≡ k + 1 = omega arith in ap (λ n. grown grid n cells) e

pub grown_none : (grid : Ground) (cells : List Cell) → grown grid 0 cells ≡ cells
unfolding grown
grown_none grid cells = refl

-- open cells lead to open cells
pub grown_open : (grid : Ground) (k : ℕ) (cells : List Cell) → AreOpen grid cells → AreOpen grid (grown grid k cells)
unfolding grown
grown_open grid zero cells open_cells = open_cells
grown_open grid (suc k) cells open_cells = λ c has. walked_open grid (suc k) cells c (ap (λ cs. has_cell cs c) (sym (grown_walked grid k cells)) ∙ has)

pub size_kept : (grid grid' : Ground) (r out : Region) (cells : List Cell) → IsSizeOf grid r → grid' ≡ grid → out ≡ with_cells r cells → IsSizeOf grid' out
size_kept grid grid' r out cells size same is = record {
  width = ap (λ (o : Region). o.width) is ∙ size.width ∙ ap (λ (g : Ground). g.width) (sym same);
  height = ap (λ (o : Region). o.height) is ∙ size.height ∙ ap (λ (g : Ground). g.height) (sym same);
}

pub open_kept : (grid grid' : Ground) (r out : Region) (k : ℕ) → AreOpen grid r.cells → grid' ≡ grid → out ≡ with_cells r (grown grid k r.cells) → AreOpen grid' out.cells
open_kept grid grid' r out k open_cells same is c has =
    ap (λ (g : Ground). is_open g c) same ∙ grown_open grid k r.cells open_cells c (ap (λ (o : Region). has_cell o.cells c) (sym is) ∙ has)

-- one growth more
pub step_more : (grid grid' : Ground) (r out new : Region) (k : ℕ) → grid' ≡ grid → out ≡ with_cells r (grown grid k r.cells) → new ≡ with_cells out (stepped grid' out.cells)
    → new ≡ with_cells r (grown grid (k + 1) r.cells)
step_more grid grid' r out new k same is new_is =
    new_is ∙ ap (λ (g : Ground). with_cells out (stepped g out.cells)) same ∙ ap (λ (o : Region). with_cells o (stepped grid o.cells)) is
    ∙ ap (λ (cs : List Cell). with_cells r cs) (grown_more grid k r.cells)

-- walls don't matter to what lies near
spread_size : (g h : Ground) (radius : ℕ) (cells : List Cell) → g.width ≡ h.width → g.height ≡ h.height → spread g radius cells ≡ spread h radius cells
unfolding spread
spread_size g h radius cells width height =
    let from : ℕ → ℕ → List Cell = λ w k. filter (λ c. list_any (λ b. nat_le (distance b c) radius) cells) (cells_in w k) in
    ap (λ (w : ℕ). from w g.height) width ∙ ap (λ (k : ℕ). from h.width k) height

-- a growth by the reach and the blast is a strike
pub struck_is : (game : Game) (q radius : ℕ) (r new : Region) → IsSizeOf game.grid r → radius ≡ (seat_of game q).reach + game.rules.blast
    → new ≡ with_cells r (spread (ground_of r) radius r.cells) → new ≡ with_cells r (struck_from game q r.cells)
struck_is game q radius r new size square is =
    is ∙ ap (λ (cs : List Cell). with_cells r cs)
    (spread_size (ground_of r) game.grid radius r.cells size.width size.height ∙ ap (λ (n : ℕ). spread game.grid n r.cells) square)

-- as many steps as a player walks in a turn, and then a strike
pub sphere_is : (game : Game) (q k : ℕ) (r o out new : Region) → IsSizeOf game.grid r → IsSizeOf game.grid o → 1 ≤ k → k ≡ (seat_of game q).speed
    → out ≡ with_cells r (grown game.grid k r.cells) → new ≡ with_cells out (struck_from game q out.cells) → new ≡ with_cells o (sphere_of game q r.cells)
sphere_is game q k r o out new size size_too some steps is new_is =
    let walk : grown game.grid k r.cells ≡ reach_of game q 1 r.cells =
    grown_some game.grid k r.cells some ∙ ap (λ (n : ℕ). walked game.grid n r.cells) (let e : k ≡ 1 * (seat_of game q).speed = omega arith in e) in
    let width : r.width ≡ o.width = size.width ∙ sym size_too.width in
    let height : r.height ≡ o.height = size.height ∙ sym size_too.height in
    let sized : ℕ → ℕ → Region = λ w h. record { width = w; height = h; cells = sphere_of game q r.cells } in
    new_is ∙ ap (λ (s : Region). with_cells s (struck_from game q s.cells)) is
    ∙ ap (λ (cs : List Cell). with_cells r (struck_from game q cs)) walk
    ∙ ap (λ (w : ℕ). sized w r.height) width ∙ ap (λ (h : ℕ). sized o.width h) height
