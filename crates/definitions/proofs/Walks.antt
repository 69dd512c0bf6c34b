-- Walks: the cells that are listed are those to which a walk leads, and more steps lead further.
use Rattle.std.proofs.Common.{◌≡◌, ℕ, zero, suc, ◌+◌, ◌≤◌, List, [], ◌∷◌, true, sym, ◌∙◌, arith, subst, ◌-◌, zero-add, suc-add}
use Rattle.std.specs.Prelude.{◌&&◌, nat_le}
use Rattle.std.specs.List.{list_any}
use Rattle.std.proofs.lemmas.Bool.{and_parts, and_from}
use Rattle.std.proofs.lemmas.Bool.Decides.{nat_tests}
use Rattle.definitions.specs.declared.world.Cell.{Cell}
use Rattle.definitions.specs.World.{Ground, cell_eq, has_cell, cells_of, is_inside, is_open, distance}
use Rattle.definitions.specs.Walk.{Walk, is_step, stepped, walked}
use Rattle.definitions.proofs.Cells.{cell_eq-true, cell_eq-same, has-filter, has-cells, any-from, any-cell}

-- a walk's end is an open cell of the list that it began in
pub has-begun : (grid : Ground) (cells : List Cell) (c : Cell) → has_cell (walked grid 0 cells) c ≡ (is_open grid c && has_cell cells c)
unfolding walked
has-begun grid cells c =
    let f = has-filter (λ b. is_open grid b && has_cell cells b) (cells_of grid) c in
    let all = has-cells grid c in
    grind arith

-- a step ends inside the grid
step_inside : (grid : Ground) (cells : List Cell) (c : Cell) → list_any (λ b. is_step grid b c) cells ≡ true → is_inside grid c ≡ true
step_inside grid cells c h =
    let found = any-cell (λ b. is_step grid b c) cells h in
    let parts = and_parts (is_open grid found.0 && is_open grid c) (nat_le (distance found.0 c) 1) found.2 in
    let opens = and_parts (is_open grid found.0) (is_open grid c) parts.0 in
    (and_parts (is_inside grid c) _ opens.1).0

-- a cell is one step on from a list exactly where a step leads to it from one of them
pub has-stepped : (grid : Ground) (cells : List Cell) (c : Cell) → has_cell (stepped grid cells) c ≡ list_any (λ b. is_step grid b c) cells
unfolding stepped
has-stepped grid cells c =
    let f = has-filter (λ e. list_any (λ b. is_step grid b e) cells) (cells_of grid) c in
    let all = has-cells grid c in
    let within : list_any (λ b. is_step grid b c) cells ≡ true → is_inside grid c ≡ true = step_inside grid cells c in
    grind arith

pub Walk-from : (grid : Ground) (k : ℕ) (a b : Cell) → has_cell (walked grid k (a ∷ [])) b ≡ true → Walk grid k a b
unfolding walked
Walk-from grid zero a b h =
    let e = sym (has-begun grid (a ∷ []) b) ∙ h in
    let both = and_parts (is_open grid b) (has_cell (a ∷ []) b) e in
    let same : cell_eq b a ≡ true = grind (arith, both.1) in
    let is : b ≡ a = cell_eq-true b a same in
    (sym is, subst (λ (c : Cell). is_open grid c ≡ true) is both.0)
Walk-from grid (suc k) a b h =
    let found = any-cell (λ c. is_step grid c b) (walked grid k (a ∷ [])) (sym (has-stepped grid (walked grid k (a ∷ [])) b) ∙ h) in
    (found.0, Walk-from grid k a found.0 found.1, found.2)

pub reaches-Walk : (grid : Ground) (k : ℕ) (a b : Cell) → Walk grid k a b → has_cell (walked grid k (a ∷ [])) b ≡ true
unfolding walked
reaches-Walk grid zero a b w =
    let P : Cell → Type 0 = λ c. has_cell (walked grid 0 (a ∷ [])) c ≡ true in
    let here : has_cell (a ∷ []) a ≡ true = let s = cell_eq-same a in grind arith in
    subst P w.0 (has-begun grid (a ∷ []) a ∙ and_from _ _ w.1 here)
reaches-Walk grid (suc k) a b w =
    has-stepped grid (walked grid k (a ∷ [])) b ∙ any-from (λ c. is_step grid c b) (walked grid k (a ∷ [])) w.0 (reaches-Walk grid k a w.0 w.1) w.2

-- a cell stays where it is in a step
stays : (grid : Ground) (c : Cell) → is_open grid c ≡ true → is_step grid c c ≡ true
stays grid c h = and_from _ _ (and_from _ _ h h) (grind (arith, nat_tests))

pub walked_open : (grid : Ground) (k : ℕ) (cells : List Cell) (c : Cell) → has_cell (walked grid k cells) c ≡ true → is_open grid c ≡ true
unfolding walked
walked_open grid zero cells c h = (and_parts _ _ (sym (has-begun grid cells c) ∙ h)).0
walked_open grid (suc k) cells c h =
    let found = any-cell (λ b. is_step grid b c) (walked grid k cells) (sym (has-stepped grid (walked grid k cells) c) ∙ h) in
    (and_parts _ _ (and_parts _ _ found.2).0).1

-- one step more leads to all the same cells
pub walked_more : (grid : Ground) (k : ℕ) (cells : List Cell) (c : Cell) → has_cell (walked grid k cells) c ≡ true → has_cell (walked grid (suc k) cells) c ≡ true
unfolding walked
walked_more grid k cells c h =
    has-stepped grid (walked grid k cells) c ∙ any-from (λ b. is_step grid b c) (walked grid k cells) c h (stays grid c (walked_open grid k cells c h))

-- more steps lead to all the same cells
pub walked_further : (grid : Ground) (k n : ℕ) (cells : List Cell) (c : Cell) → has_cell (walked grid k cells) c ≡ true → has_cell (walked grid (n + k) cells) c ≡ true
walked_further grid k zero cells c h = rw zero-add h
walked_further grid k (suc n) cells c h = let more = walked_more grid (n + k) cells c (walked_further grid k n cells c h) in rw suc-add more

pub walked_at_least : (grid : Ground) (k m : ℕ) (cells : List Cell) (c : Cell) → k ≤ m → has_cell (walked grid k cells) c ≡ true → has_cell (walked grid m cells) c ≡ true
walked_at_least grid k m cells c le h =
    let P : ℕ → Type 0 = λ n. has_cell (walked grid n cells) c ≡ true in
    let e : m - k + k ≡ m = omega arith in
    subst P e (walked_further grid k (m - k) cells c h)
