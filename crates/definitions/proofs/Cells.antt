-- Lists of cells: what they have.
use Rattle.std.proofs.Common.{◌≡◌, ℕ, zero, suc, ◌+◌, List, [], ◌∷◌, ◌++◌, refl, Bool, true, false, ◌∙◌, ap, arith, inl, inr}
use Rattle.std.specs.Prelude.{filter, map, flat_map, ◌&&◌, ◌||◌, ◌==◌, nat_lt, nat_le}
use Rattle.std.specs.List.{list_any, range_with_len}
use Rattle.std.proofs.lemmas.Bool.{eqb-true, eq-eqb, and_parts, and_from, or_cases, or_left, or_right, false≢true}
use Rattle.std.proofs.lemmas.Bool.Decides.{nat_tests}
use Rattle.definitions.specs.declared.world.Cell.{Cell}
use Rattle.definitions.specs.World.{Ground, cell_eq, has_cell, cells_of, cells_in, row_of, is_inside}

pub cell_eq-true : (a b : Cell) → cell_eq a b ≡ true → a ≡ b
cell_eq-true a b h =
    let both = and_parts (a.x == b.x) (a.y == b.y) h in
    let at_x : ℕ → Cell = λ n. record { x = n; y = a.y } in
    let at_y : ℕ → Cell = λ n. record { x = b.x; y = n } in
    ap at_x (eqb-true a.x b.x both.0) ∙ ap at_y (eqb-true a.y b.y both.1)

pub cell_eq-same : (a : Cell) → cell_eq a a ≡ true
cell_eq-same a = and_from (a.x == a.x) (a.y == a.y) (eq-eqb a.x a.x refl) (eq-eqb a.y a.y refl)

-- the one cell of a list
pub one_has : (a c : Cell) → has_cell (a ∷ []) c ≡ true → c ≡ a
one_has a c has =
    elim (or_cases (cell_eq c a) false has) [
      | inl here ↦ cell_eq-true c a here
      | inr none ↦ absurd (false≢true none)
    ]

pub has-append : (xs ys : List Cell) (c : Cell) → has_cell (xs ++ ys) c ≡ (has_cell xs c || has_cell ys c)
has-append [] ys c = refl
has-append (x ∷ xs) ys c = let ih = has-append xs ys c in grind arith

pub has-filter : (p : Cell → Bool) (xs : List Cell) (c : Cell) → has_cell (filter p xs) c ≡ (p c && has_cell xs c)
has-filter p [] c = grind arith
has-filter p (x ∷ xs) c =
    let ih = has-filter p xs c in
    let same : cell_eq c x ≡ true → c ≡ x = cell_eq-true c x in
    grind arith

-- a test of a cell of the list that passes
pub any-from : (p : Cell → Bool) (xs : List Cell) (c : Cell) → has_cell xs c ≡ true → p c ≡ true → list_any p xs ≡ true
any-from p [] c h g = h
any-from p (x ∷ xs) c h g =
    let ih = any-from p xs c in
    let same : cell_eq c x ≡ true → c ≡ x = cell_eq-true c x in
    grind arith

pub any-cell : (p : Cell → Bool) (xs : List Cell) → list_any p xs ≡ true → (c : Cell) × (has_cell xs c ≡ true) × (p c ≡ true)
any-cell p [] h = absurd (false≢true h)
any-cell p (x ∷ xs) h =
    elim (or_cases (p x) (list_any p xs) h) [
      | inl here ↦ (x, or_left (cell_eq x x) (has_cell xs x) (cell_eq-same x), here)
      | inr later ↦
          let found = any-cell p xs later in
          (found.0, or_right (cell_eq found.0 x) (has_cell xs found.0) found.1, found.2)
    ]

has-row : (w y a : ℕ) (n : ℕ) (c : Cell) → has_cell (map (λ x. record { x = x; y = y }) (range_with_len a n)) c ≡ ((c.y == y) && (nat_le a c.x && nat_lt c.x (a + n)))
has-row w y a zero c = grind (arith, nat_tests)
has-row w y a (suc n) c = let ih = has-row w y (a + 1) n c in grind (arith, nat_tests)

has-rows : (w a : ℕ) (n : ℕ) (c : Cell) → has_cell (flat_map (row_of w) (range_with_len a n)) c ≡ (nat_lt c.x w && (nat_le a c.y && nat_lt c.y (a + n)))
unfolding row_of
has-rows w a zero c = grind (arith, nat_tests)
has-rows w a (suc n) c =
    let ih = has-rows w (a + 1) n c in
    let one = has-row w a 0 w c in
    has-append (row_of w a) (flat_map (row_of w) (range_with_len (a + 1) n)) c ∙ grind (arith, nat_tests)

-- the cells of a grid are those inside it
pub has-cells : (grid : Ground) (c : Cell) → has_cell (cells_of grid) c ≡ is_inside grid c
unfolding cells_in
has-cells grid c = let h = has-rows grid.width 0 grid.height c in grind (arith, nat_tests)
