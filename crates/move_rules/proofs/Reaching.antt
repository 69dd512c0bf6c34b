-- Walks in a window: a walk of few steps stays near its start, and a step sets the bits of the open places beside those set.
use Rattle.std.proofs.Common.{◌≡◌, ℕ, zero, suc, ◌+◌, ◌-◌, ◌*◌, ◌/◌, ◌^◌, ◌<◌, ◌≤◌, slice_index, bit_and, Bool, true, false, List, [], ◌∷◌, refl, sym, ap, subst, add-one, ◌∙◌, arith}
use Rattle.std.specs.Prelude.{◌&&◌, ◌==◌, nat_lt, nat_le}
use Rattle.std.proofs.lemmas.Bool.{and_parts, and_from, or_left, lt-ltb, leb-true, le-leb, eqb-true, eq-eqb}
use Rattle.definitions.specs.declared.world.Cell.{Cell}
use Rattle.definitions.specs.World.{Ground, cell_eq, has_cell, distance, is_open}
use Rattle.definitions.specs.Walk.{is_step, walked}
use Rattle.definitions.proofs.Cells.{cell_eq-same, one_has, any-cell, any-from}
use Rattle.definitions.proofs.Codes.{cell_from}
use Rattle.definitions.proofs.Nearness.{further}
use Rattle.definitions.proofs.Walks.{has-begun, has-stepped, walked_open}
use Rattle.move_rules.specs.Windows.{lit, near, near_place, cell_at, shows, ShowsOpen, ShowsWalk}
use Rattle.move_rules.proofs.WindowBits.{bit_lit}
use Rattle.plain_lemmas.proofs.Tests.{same_tests, near_at, near_from}

-- a walk of k steps leads no further than k
pub walked_within : (grid : Ground) (k : ℕ) (a c : Cell) → has_cell (walked grid k (a ∷ [])) c ≡ true → distance a c ≤ k
unfolding walked
walked_within grid zero a c h =
    let both = and_parts (is_open grid c) (has_cell (a ∷ []) c) (sym (has-begun grid (a ∷ []) c) ∙ h) in
    let same : c ≡ a = one_has a c both.1 in
    let x : c.x ≡ a.x = ap (λ (b : Cell). b.x) same in
    let y : c.y ≡ a.y = ap (λ (b : Cell). b.y) same in
    omega arith
walked_within grid (suc k) a c h =
    let found = any-cell (λ b. is_step grid b c) (walked grid k (a ∷ [])) (sym (has-stepped grid (walked grid k (a ∷ [])) c) ∙ h) in
    let close : distance found.0 c ≤ 1 = leb-true (distance found.0 c) 1 (and_parts (is_open grid found.0 && is_open grid c) _ found.2).1 in
    let before = walked_within grid k a found.0 found.1 in
    let all = further a found.0 c k before close in
    omega arith

-- no walk of k steps leads further than k
pub walked_no_further : (grid : Ground) (k : ℕ) (a c : Cell) → k < distance a c → has_cell (walked grid k (a ∷ [])) c ≡ false
walked_no_further grid k a c far =
    let near_by : has_cell (walked grid k (a ∷ [])) c ≡ true → distance a c ≤ k = walked_within grid k a c in
    go (has_cell (walked grid k (a ∷ [])) c) near_by
  where
    go : (t : Bool) → (t ≡ true → distance a c ≤ k) → t ≡ false
    go true f = let le = f refl in absurd (omega arith)
    go false f = refl

-- a place of the window that shows a cell
shown : (a : Cell) (s : ℕ) (p : Cell → Bool) (i r : ℕ) → shows a s p i r ≡ true → (s ≤ a.x + i) × (s ≤ a.y + r) × (p (cell_at a s i r) ≡ true)
unfolding shows
shown a s p i r h =
    let outer = and_parts (nat_le s (a.x + i)) (nat_le s (a.y + r) && p (cell_at a s i r)) h in
    let inner = and_parts (nat_le s (a.y + r)) (p (cell_at a s i r)) outer.1 in
    (leb-true s (a.x + i) outer.0, leb-true s (a.y + r) inner.0, inner.1)

shown_from : (a : Cell) (s : ℕ) (p : Cell → Bool) (i r : ℕ) → s ≤ a.x + i → s ≤ a.y + r → p (cell_at a s i r) ≡ true → shows a s p i r ≡ true
unfolding shows
shown_from a s p i r x y h = and_from _ _ (le-leb s (a.x + i) x) (and_from _ _ (le-leb s (a.y + r) y) h)

-- a cell within the radius has a place in the window
pub shows_cell : (a c : Cell) (s : ℕ) (p : Cell → Bool) → distance a c ≤ s → shows a s p (c.x + s - a.x) (c.y + s - a.y) ≡ p c
unfolding shows
shows_cell a c s p close =
    let x : s ≤ a.x + (c.x + s - a.x) = omega arith in
    let y : s ≤ a.y + (c.y + s - a.y) = omega arith in
    let column : a.x + (c.x + s - a.x) - s ≡ c.x = omega arith in
    let row : a.y + (c.y + s - a.y) - s ≡ c.y = omega arith in
    let same : cell_at a s (c.x + s - a.x) (c.y + s - a.y) ≡ c = cell_from (cell_at a s (c.x + s - a.x) (c.y + s - a.y)) c column row in
    rw (le-leb s (a.x + (c.x + s - a.x)) x, le-leb s (a.y + (c.y + s - a.y)) y) (ap p same)

-- a set place beside an open one: a step leads to the open one
step_to : (grid : Ground) (a : Cell) (s k i r : ℕ) → shows a s (is_open grid) i r ≡ true → near_place (shows a s (has_cell (walked grid k (a ∷ [])))) i r ≡ true
    → shows a s (has_cell (walked grid (suc k) (a ∷ []))) i r ≡ true
unfolding walked
step_to grid a s k i r opens h =
    let here = shown a s (is_open grid) i r opens in
    let column = near_at (λ n. near (λ m. shows a s (has_cell (walked grid k (a ∷ []))) n m) r) i h in
    let row = near_at (λ m. shows a s (has_cell (walked grid k (a ∷ []))) column.0 m) r column.3 in
    let there = shown a s (has_cell (walked grid k (a ∷ []))) column.0 row.0 row.3 in
    let b : Cell = cell_at a s column.0 row.0 in
    let c : Cell = cell_at a s i r in
    let close : distance b c ≤ 1 = omega (arith, column.1, column.2, row.1, row.2, here.0, here.1, there.0, there.1) in
    let step : is_step grid b c ≡ true = and_from _ _ (and_from _ _ (walked_open grid k (a ∷ []) b there.2) here.2) (le-leb (distance b c) 1 close) in
    shown_from a s (has_cell (walked grid (suc k) (a ∷ []))) i r here.0 here.1
    (has-stepped grid (walked grid k (a ∷ [])) c ∙ any-from (λ e. is_step grid e c) (walked grid k (a ∷ [])) b there.2 step)

-- what a step leads to is an open place of the window beside a set one
step_from : (grid : Ground) (a : Cell) (s k i r : ℕ) → k < s → shows a s (has_cell (walked grid (suc k) (a ∷ []))) i r ≡ true
    → (nat_lt r (2 * s + 1) && (nat_lt i (2 * s + 1) && shows a s (is_open grid) i r)) ≡ true × (near_place (shows a s (has_cell (walked grid k (a ∷ [])))) i r ≡ true)
unfolding walked
step_from grid a s k i r less h =
    let here = shown a s (has_cell (walked grid (suc k) (a ∷ []))) i r h in
    let c : Cell = cell_at a s i r in
    let found = any-cell (λ e. is_step grid e c) (walked grid k (a ∷ [])) (sym (has-stepped grid (walked grid k (a ∷ [])) c) ∙ here.2) in
    let b : Cell = found.0 in
    let step = and_parts (is_open grid b && is_open grid c) (nat_le (distance b c) 1) found.2 in
    let ends = and_parts (is_open grid b) (is_open grid c) step.0 in
    let close : distance b c ≤ 1 = leb-true (distance b c) 1 step.1 in
    let within : distance a b ≤ k = walked_within grid k a b found.1 in
    let n : ℕ = b.x + s - a.x in
    let m : ℕ = b.y + s - a.y in
    let set : shows a s (has_cell (walked grid k (a ∷ []))) n m ≡ true = shows_cell a b s (has_cell (walked grid k (a ∷ []))) (omega arith) ∙ found.1 in
    let row_below : r ≤ m + 1 = omega (arith, here.0, here.1) in
    let row_above : m ≤ r + 1 = omega (arith, here.0, here.1) in
    let column_left : i ≤ n + 1 = omega (arith, here.0, here.1) in
    let column_right : n ≤ i + 1 = omega (arith, here.0, here.1) in
    let low : r < 2 * s + 1 = omega (arith, here.0, here.1) in
    let left : i < 2 * s + 1 = omega (arith, here.0, here.1) in (
      and_from _ _ (lt-ltb r (2 * s + 1) low) (and_from _ _ (lt-ltb i (2 * s + 1) left) (shown_from a s (is_open grid) i r here.0 here.1 ends.1)),
      near_from (λ n. near (λ m. shows a s (has_cell (walked grid k (a ∷ []))) n m) r) i n column_left column_right
          (near_from (λ m. shows a s (has_cell (walked grid k (a ∷ []))) n m) r m row_below row_above set),
    )

-- one step more of a walk that is shorter than the radius
pub shows_next : (grid : Ground) (a : Cell) (s k : ℕ) (opens rows new : List ℕ) → k < s → ShowsOpen grid a s opens → ShowsWalk grid a s k rows
    → ((i r : ℕ) → lit new i r ≡ (lit opens i r && near_place (lit rows) i r)) → ShowsWalk grid a s (k + 1) new
shows_next grid a s k opens rows new less open_is rows_is new_is = subst (λ (n : ℕ). ShowsWalk grid a s n new) (sym (add-one k)) (record {
  bits = λ i r.
      new_is i r ∙ ap (λ (t : Bool). t && near_place (lit rows) i r) (open_is.bits i r)
      ∙ ap (λ (t : Bool). (nat_lt r (2 * s + 1) && (nat_lt i (2 * s + 1) && shows a s (is_open grid) i r)) && t) (near_same (lit rows) (shows a s (has_cell (walked grid k (a ∷ [])))) i r rows_is.bits)
      ∙ same_tests _ _
      (λ t.
      let both = and_parts _ _ t in
      let inner = and_parts _ _ (and_parts _ _ both.0).1 in
      step_to grid a s k i r inner.1 both.1)
      (λ t. let both = step_from grid a s k i r less t in and_from _ _ both.0 both.1);
})
  where
    near_same : (p q : ℕ → ℕ → Bool) (i r : ℕ) → ((i r : ℕ) → p i r ≡ q i r) → near_place p i r ≡ near_place q i r
    near_same p q i r same = rw (
      same (i - 1) (r - 1),
      same (i - 1) r,
      same (i - 1) (r + 1),
      same i (r - 1),
      same i r,
      same i (r + 1),
      same (i + 1) (r - 1),
      same (i + 1) r,
      same (i + 1) (r + 1),
    ) refl

-- no step at all: the middle alone
pub shows_middle : (grid : Ground) (a : Cell) (s : ℕ) (rows : List ℕ) → is_open grid a ≡ true → ((i r : ℕ) → lit rows i r ≡ ((r == s) && (i == s))) → ShowsWalk grid a s 0 rows
shows_middle grid a s rows opens is = record {
  bits = λ i r. is i r ∙ same_tests _ _ (to i r) (back i r);
}
  where
    to : (i r : ℕ) → ((r == s) && (i == s)) ≡ true → shows a s (has_cell (walked grid 0 (a ∷ []))) i r ≡ true
    to i r h =
        let both = and_parts (r == s) (i == s) h in
        let row : r ≡ s = eqb-true r s both.0 in
        let column : i ≡ s = eqb-true i s both.1 in
        let c : Cell = cell_at a s i r in
        let same : c ≡ a = cell_from c a (omega (arith, column)) (omega (arith, row)) in
        let has : has_cell (walked grid 0 (a ∷ [])) a ≡ true = has-begun grid (a ∷ []) a ∙ and_from _ _ opens (or_left (cell_eq a a) false (cell_eq-same a)) in
        shown_from a s (has_cell (walked grid 0 (a ∷ []))) i r (omega (arith, column)) (omega (arith, row)) (ap (has_cell (walked grid 0 (a ∷ []))) same ∙ has)

    back : (i r : ℕ) → shows a s (has_cell (walked grid 0 (a ∷ []))) i r ≡ true → ((r == s) && (i == s)) ≡ true
    back i r h =
        let here = shown a s (has_cell (walked grid 0 (a ∷ []))) i r h in
        let none = walked_within grid 0 a (cell_at a s i r) here.2 in
        let row : r ≡ s = omega (arith, here.0, here.1) in
        let column : i ≡ s = omega (arith, here.0, here.1) in
        and_from _ _ (eq-eqb r s row) (eq-eqb i s column)

-- the bit of a cell within the radius
pub lit_cell : (grid : Ground) (a c : Cell) (s k : ℕ) (rows : List ℕ) → ShowsWalk grid a s k rows → distance a c ≤ s
    → lit rows (c.x + s - a.x) (c.y + s - a.y) ≡ has_cell (walked grid k (a ∷ [])) c
lit_cell grid a c s k rows facts close = facts.bits (c.x + s - a.x) (c.y + s - a.y) ∙ shows_cell a c s (has_cell (walked grid k (a ∷ []))) close

-- the bit of a cell within the radius, as it is read
pub shows_read : (grid : Ground) (a c : Cell) (s k row place column : ℕ) (rows : List ℕ) → ShowsWalk grid a s k rows → distance a c ≤ s
    → row ≡ slice_index rows place → place ≡ c.y + s - a.y → column ≡ c.x + s - a.x → (bit_and (row / 2 ^ column) 1 == 1) ≡ has_cell (walked grid k (a ∷ [])) c
shows_read grid a c s k row place column rows facts close row_is place_is column_is =
    bit_lit rows row place column row_is
    ∙ ap (λ (r : ℕ). lit rows column r) place_is ∙ ap (λ (i : ℕ). lit rows i (c.y + s - a.y)) column_is
    ∙ lit_cell grid a c s k rows facts close
