-- Walks that stand still: once a step adds nothing, no later one does.
use Rattle.std.proofs.Common.{◌≡◌, ℕ, zero, suc, ◌+◌, Bool, true, false, List, [], ◌∷◌, refl, ap, ◌∙◌, arith}
use Rattle.std.specs.Prelude.{◌&&◌, ◌||◌, not, nat_lt}
use Rattle.std.proofs.lemmas.Bool.{and_parts, ltb-true}
use Rattle.definitions.specs.declared.world.Cell.{Cell}
use Rattle.definitions.specs.World.{Ground, cell_eq, has_cell, is_inside, is_wall, is_open}
use Rattle.definitions.specs.Walk.{stepped, walked}
use Rattle.definitions.proofs.Cells.{cell_eq-true}
use Rattle.cell_set.proofs.CellLists.{filter_cells, one_cell}

-- no step at all leads from an open cell to itself alone
pub walked_one : (grid : Ground) (a : Cell) → is_open grid a ≡ true → walked grid 0 (a ∷ []) ≡ a ∷ []
unfolding walked
walked_one grid a opens =
    let inside = and_parts (is_inside grid a) (not (is_wall grid a)) opens in
    let both = and_parts (nat_lt a.x grid.width) (nat_lt a.y grid.height) inside.0 in
    filter_cells (λ c. is_open grid c && has_cell (a ∷ []) c) (λ c. cell_eq c a) grid.width grid.height (λ c wide high. alone c)
    ∙ one_cell grid.width grid.height a (ltb-true a.x grid.width both.0) (ltb-true a.y grid.height both.1)
  where
    go : (c : Cell) (b : Bool) → cell_eq c a ≡ b → (is_open grid c && (b || false)) ≡ b
    go c true is = ap (λ t. t && true) (ap (λ d. is_open grid d) (cell_eq-true c a is) ∙ opens)
    go c false is = by_tests (is_open grid c)
      where
        by_tests : (t : Bool) → (t && false) ≡ false
        by_tests true = refl
        by_tests false = refl

    alone : (c : Cell) → (is_open grid c && has_cell (a ∷ []) c) ≡ cell_eq c a
    alone c = go c (cell_eq c a) refl

-- where a step adds nothing, none of the next does
pub walked_still : (grid : Ground) (k n : ℕ) (cells : List Cell) → stepped grid (walked grid k cells) ≡ walked grid k cells → walked grid (n + k) cells ≡ walked grid k cells
unfolding walked
walked_still grid k zero cells still = let e : 0 + k ≡ k = omega arith in ap (λ m. walked grid m cells) e
walked_still grid k (suc n) cells still =
    let e : suc n + k ≡ suc (n + k) = omega arith in
    ap (λ m. walked grid m cells) e ∙ ap (stepped grid) (walked_still grid k n cells still) ∙ still
