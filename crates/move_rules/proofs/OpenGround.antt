-- On a ground without walls a walk of k steps leads exactly to the cells within square distance k.
use Rattle.std.proofs.Common.{◌≡◌, ℕ, zero, suc, ◌+◌, ◌-◌, ◌≤◌, ◌<◌, List, [], refl, add-zero, Bool, true, false, sym, ◌∙◌, ap, arith}
use Rattle.std.specs.Prelude.{◌&&◌, ◌||◌, nat_le, nat_lt, ◌==◌, if◌then◌else◌}
use Rattle.std.specs.List.{list_any}
use Rattle.std.proofs.lemmas.Bool.{and_parts, and_from}
use Rattle.std.proofs.lemmas.Bool.Decides.{nat_tests}
use Rattle.definitions.specs.declared.world.Cell.{Cell}
use Rattle.definitions.specs.World.{Ground, has_cell, is_inside, is_open, distance, gap}
use Rattle.definitions.specs.Walk.{is_step, walked}
use Rattle.definitions.proofs.Cells.{any-cell, any-from}
use Rattle.definitions.proofs.Walks.{has-begun, has-stepped}
use Rattle.plain_lemmas.proofs.Tests.{same_tests}

-- b, one nearer to a
abbrev pub nearer : ℕ → ℕ → ℕ
nearer a b = if nat_lt b a then b + 1 else if nat_lt a b then b - 1 else b

abbrev pub nearer_cell : Cell → Cell → Cell
nearer_cell a b = record { x = nearer a.x b.x; y = nearer a.y b.y }

nearer-one : (a b : ℕ) → gap (nearer a b) b ≤ 1
nearer-one a b = grind (arith, nat_tests)

nearer-less : (a b k : ℕ) → gap a b ≤ k + 1 → gap a (nearer a b) ≤ k
nearer-less a b k h = grind (arith, nat_tests)

nearer-within : (a b w : ℕ) → a < w → b < w → nearer a b < w
nearer-within a b w h k = grind (arith, nat_tests)

-- the distance is within k exactly where both differences are
pub distance-parts : (a b : Cell) (k : ℕ) → nat_le (distance a b) k ≡ (nat_le (gap a.x b.x) k && nat_le (gap a.y b.y) k)
distance-parts a b k = grind (arith, nat_tests)

gap-triangle : (a b c k : ℕ) → gap a c ≤ k → gap c b ≤ 1 → gap a b ≤ k + 1
gap-triangle a b c k h g = omega arith

-- where no cell is a wall
open-inside : (grid : Ground) (c : Cell) → grid.walls ≡ [] → is_open grid c ≡ is_inside grid c
open-inside grid c w = rw w (grind arith)

pub le-true : (m n : ℕ) → m ≤ n → nat_le m n ≡ true
le-true m n h = grind (arith, nat_tests)

pub true-le : (m n : ℕ) → nat_le m n ≡ true → m ≤ n
true-le m n h = grind (arith, nat_tests)

pub lt-true : (m n : ℕ) → m < n → nat_lt m n ≡ true
lt-true m n h = grind (arith, nat_tests)

pub true-lt : (m n : ℕ) → nat_lt m n ≡ true → m < n
true-lt m n h = grind (arith, nat_tests)

here : (a b : Cell) → (((b.x == a.x) && (b.y == a.y)) || false) ≡ nat_le (distance a b) 0
here a b = grind (arith, nat_tests)

-- the cells are those inside the grid within distance k of a
abbrev pub IsBox : Ground → Cell → ℕ → List Cell → Type 0
IsBox grid a k cells = (c : Cell) → has_cell cells c ≡ (is_inside grid c && nat_le (distance a c) k)

-- a cell within distance 1 of one within distance k
step_there : (grid : Ground) (k : ℕ) (a b : Cell) (cells : List Cell) → grid.walls ≡ [] → IsBox grid a k cells →
    list_any (λ c. is_step grid c b) cells ≡ true → (is_inside grid b && nat_le (distance a b) (k + 1)) ≡ true
step_there grid k a b cells w all h =
    let f = any-cell (λ c. is_step grid c b) cells h in
    let s = and_parts _ _ f.2 in
    let opens = and_parts (is_open grid f.0) (is_open grid b) s.0 in
    let near = and_parts _ _ (sym (all f.0) ∙ f.1) in
    let p = and_parts _ _ (sym (distance-parts a f.0 k) ∙ near.1) in
    let q = and_parts _ _ (sym (distance-parts f.0 b 1) ∙ s.1) in
    let x = le-true _ _ (gap-triangle a.x b.x f.0.x k (true-le _ _ p.0) (true-le _ _ q.0)) in
    let y = le-true _ _ (gap-triangle a.y b.y f.0.y k (true-le _ _ p.1) (true-le _ _ q.1)) in
    and_from _ _ (sym (open-inside grid b w) ∙ opens.1) (distance-parts a b (k + 1) ∙ and_from _ _ x y)

step_back : (grid : Ground) (k : ℕ) (a b : Cell) (cells : List Cell) → grid.walls ≡ [] → is_inside grid a ≡ true → IsBox grid a k cells →
    (is_inside grid b && nat_le (distance a b) (k + 1)) ≡ true → list_any (λ c. is_step grid c b) cells ≡ true
step_back grid k a b cells w i all h =
    let g = and_parts (is_inside grid b) (nat_le (distance a b) (k + 1)) h in
    let p = and_parts _ _ (sym (distance-parts a b (k + 1)) ∙ g.1) in
    let c : Cell = nearer_cell a b in
    let ia = and_parts (nat_lt a.x grid.width) (nat_lt a.y grid.height) i in
    let ib = and_parts (nat_lt b.x grid.width) (nat_lt b.y grid.height) g.0 in
    let inside : is_inside grid c ≡ true = and_from _ _
    (lt-true _ _ (nearer-within a.x b.x grid.width (true-lt _ _ ia.0) (true-lt _ _ ib.0)))
    (lt-true _ _ (nearer-within a.y b.y grid.height (true-lt _ _ ia.1) (true-lt _ _ ib.1))) in
    let far : nat_le (distance a c) k ≡ true = distance-parts a c k ∙ and_from _ _
    (le-true _ _ (nearer-less a.x b.x k (true-le _ _ p.0))) (le-true _ _ (nearer-less a.y b.y k (true-le _ _ p.1))) in
    let near : nat_le (distance c b) 1 ≡ true = distance-parts c b 1 ∙ and_from _ _
    (le-true _ _ (nearer-one a.x b.x)) (le-true _ _ (nearer-one a.y b.y)) in
    let step : is_step grid c b ≡ true = and_from _ _ (and_from _ _ (open-inside grid c w ∙ inside) (open-inside grid b w ∙ g.0)) near in
    any-from (λ e. is_step grid e b) cells c (all c ∙ and_from _ _ inside far) step

-- n steps from a box lead to the box that is n wider
pub box_walked : (grid : Ground) (n k : ℕ) (a : Cell) (cells : List Cell) → grid.walls ≡ [] → is_inside grid a ≡ true → IsBox grid a k cells →
    IsBox grid a (k + n) (walked grid n cells)
unfolding walked
box_walked grid zero k a cells w i all c =
    has-begun grid cells c ∙ ap (λ o. o && has_cell cells c) (open-inside grid c w) ∙ ap (λ t. is_inside grid c && t) (all c) ∙
    twice (is_inside grid c) (nat_le (distance a c) k) ∙ ap (λ n. is_inside grid c && nat_le (distance a c) n) (sym (add-zero k))
  where
    twice : (p q : Bool) → (p && (p && q)) ≡ (p && q)
    twice true q = refl
    twice false q = refl
box_walked grid (suc n) k a cells w i all c =
    let ih = box_walked grid n k a cells w i all in
    let e : (k + n) + 1 ≡ k + suc n = omega arith in
    has-stepped grid (walked grid n cells) c ∙
    same_tests _ _ (step_there grid (k + n) a c (walked grid n cells) w ih) (step_back grid (k + n) a c (walked grid n cells) w i ih) ∙
    ap (λ m. is_inside grid c && nat_le (distance a c) m) e
