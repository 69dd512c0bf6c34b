-- The walls of a grid as rows of bits: what setting one more bit does.
use Rattle.std.proofs.Common.{◌≡◌, ℕ, ◌+◌, ◌*◌, ◌/◌, ◌%◌, ◌^◌, ◌<◌, Bool, true, false, List, [], ◌∷◌, ◌++◌, length, get_or, take, refl, sym, ap, subst, ◌∙◌, arith, inl, inr}
use Rattle.std.specs.Prelude.{◌||◌, ◌==◌, nat_lt, bit_or, IsTrue}
use Rattle.std.specs.Int.{bit_at, w64}
use Rattle.std.proofs.Math.ListN.{set, length-set}
use Rattle.std.proofs.lemmas.Bool.{cases_eq, cases_Bool, eq-eqb, or_right, and_parts, and_from, ltb-true}
use Rattle.std.proofs.lemmas.List.{take_more, get_or-set_same, get_or-set_other, get_or_default}
use Rattle.std.proofs.Math.Nat.{mul_comm}
use Rattle.std.proofs.lemmas.Nat.{same_from_place, mul-add-lt}
use Rattle.std.proofs.lemmas.Nat.Bits.{bit_at_set_same, bit_at_set_other}
use Rattle.definitions.specs.declared.world.Cell.{Cell}
use Rattle.definitions.specs.Lists.{EachIs}
use Rattle.definitions.specs.World.{Ground, cell_eq, has_cell, is_inside}
use Rattle.definitions.proofs.Cells.{cell_eq-true, has-append}
use Rattle.definitions.proofs.Items.{item_is}
use Rattle.grid_world.specs.Grids.{AreRowsOf, words_of}
use Rattle.grid_world.proofs.Facts.{each_at}

abbrev cell_at : ℕ → ℕ → Cell
cell_at x y = record { x = x; y = y }

-- whether the bit of this column and this row is 1
abbrev has_bit_at : List ℕ → ℕ → ℕ → ℕ → Bool
has_bit_at rows words x y = bit_at (get_or rows (y * words + x / 64) 0) (x % 64) == 1

or-false : (a : Bool) → (a || false) ≡ a
or-false true = refl
or-false false = refl

or_false : (a b : Bool) → (a || (b || false)) ≡ (a || b)
or_false true b = refl
or_false false true = refl
or_false false false = refl

-- one more wall, last in the list
has_one_more : (walls : List Cell) (i : ℕ) (e c d : Cell) → i < length walls → get_or walls i e ≡ c → has_cell (take (i + 1) walls) d ≡ (has_cell (take i walls) d || cell_eq d c)
has_one_more walls i e c d lt is =
    ap (λ (cells : List Cell). has_cell cells d) (take_more walls i e lt ∙ ap (λ (w : Cell). take i walls ++ w ∷ []) is)
    ∙ has-append (take i walls) (c ∷ []) d ∙ or_false (has_cell (take i walls) d) (cell_eq d c)

-- the word in which a cell's bit lies
abbrev word_of : ℕ → Cell → ℕ
word_of words c = c.y * words + c.x / 64

not_same : (c d : Cell) → (d ≡ c → ⊥) → cell_eq d c ≡ false
not_same c d apart =
    elim (cases_Bool (cell_eq d c)) [
      | inl is ↦ absurd (apart (cell_eq-true d c is))
      | inr is ↦ is
    ]

same_cell : (c : Cell) (x y : ℕ) → y ≡ c.y → x ≡ c.x → cell_eq (cell_at x y) c ≡ true
same_cell c x y row column = and_from (x == c.x) (y == c.y) (eq-eqb x c.x column) (eq-eqb y c.y row)

-- a bit of the rows, once the bit of a cell is set
bit_after : (words : ℕ) (rows : List ℕ) (c : Cell) (x y : ℕ) → x / 64 < words → c.x / 64 < words → word_of words c < length rows
    → has_bit_at (set rows (word_of words c) (bit_or (get_or rows (word_of words c) 0) (1 * 2 ^ (c.x % 64) % 2 ^ 64))) words x y ≡ (has_bit_at rows words x y || cell_eq (cell_at x y) c)
bit_after words rows c x y wide in_row in_rows =
    let k : ℕ = word_of words c in
    let old : ℕ = get_or rows k 0 in
    let v : ℕ = bit_or old (1 * 2 ^ (c.x % 64) % 2 ^ 64) in
    let low : c.x % 64 < 64 = omega arith in
    elim (cases_eq (word_of words (cell_at x y)) k) [
      | inl same ↦
          let at_place = same_from_place y (x / 64) c.y (c.x / 64) words wide in_row same in
          let new : get_or (set rows k v) (word_of words (cell_at x y)) 0 ≡ v = rw same (get_or-set_same rows k v 0 in_rows) in
          elim (cases_eq (x % 64) (c.x % 64)) [
            | inl bit ↦
                let column : x ≡ c.x = omega (arith, at_place.1, bit) in
                let one : bit_at v (x % 64) ≡ 1 = rw bit (bit_at_set_same w64 old (c.x % 64) low) in
                let here = same_cell c x y at_place.0 column in
                ap (λ (w : ℕ). bit_at w (x % 64) == 1) new ∙ ap (λ (b : ℕ). b == 1) one ∙ sym (or_right (has_bit_at rows words x y) (cell_eq (cell_at x y) c) here)
            | inr differs ↦
                let as_old : bit_at v (x % 64) ≡ bit_at old (x % 64) = bit_at_set_other w64 old (c.x % 64) low (x % 64) differs in
                let elsewhere = not_same c (cell_at x y) (λ is. differs (ap (λ (w : Cell). w.x % 64) is)) in
                let before : has_bit_at rows words x y ≡ (bit_at old (x % 64) == 1) = ap (λ (w : ℕ). bit_at (get_or rows w 0) (x % 64) == 1) same in
                ap (λ (w : ℕ). bit_at w (x % 64) == 1) new ∙ ap (λ (b : ℕ). b == 1) as_old ∙ sym before ∙ sym (rw elsewhere (or-false _))
          ]
      | inr other ↦
          let elsewhere = not_same c (cell_at x y) (λ is. other (ap (λ (w : Cell). word_of words w) is)) in
          ap (λ (w : ℕ). bit_at w (x % 64) == 1) (get_or-set_other rows k (word_of words (cell_at x y)) v 0 other) ∙ sym (rw elsewhere (or-false _))
    ]

pub rows_more : (width height : ℕ) (walls : List Cell) (i : ℕ) (e c : Cell) (rows : List ℕ) (k v d : ℕ) → i < length walls → get_or walls i e ≡ c
    → is_inside (record { width = width; height = height; walls = walls }) c ≡ true → k ≡ c.y * words_of width + c.x / 64
    → v ≡ bit_or (get_or rows k d) (1 * 2 ^ (c.x % 64) % 2 ^ 64)
    → AreRowsOf (record { width = width; height = height; walls = take i walls }) rows → AreRowsOf (record { width = width; height = height; walls = take (i + 1) walls }) (set rows k v)
rows_more width height walls i e c rows k v d lt is inside k_is v_is before =
    let words : ℕ = words_of width in
    let both = and_parts (nat_lt c.x width) (nat_lt c.y height) inside in
    let left : c.x < width = ltb-true c.x width both.0 in
    let above : c.y < height = ltb-true c.y height both.1 in
    let in_row : c.x / 64 < words = omega arith in
    let in_rows : word_of words c < length rows = omega (arith, before.len, mul-add-lt c.y words (c.x / 64) height above in_row, mul_comm height words) in
    let new : set rows k v ≡ set rows (word_of words c) (bit_or (get_or rows (word_of words c) 0) (1 * 2 ^ (c.x % 64) % 2 ^ 64)) = rw (v_is, get_or_default rows k d 0 (rw k_is in_rows), k_is) refl in
    record {
      len = length-set rows k v ∙ before.len;
      bits = λ x y wide high.
          ap (λ (r : List ℕ). has_bit_at r words x y) new
          ∙ bit_after words rows c x y (omega arith) in_row in_rows
          ∙ ap (λ (b : Bool). b || cell_eq (cell_at x y) c) (before.bits x y wide high)
          ∙ sym (has_one_more walls i e c (cell_at x y) lt is);
    }

pub inside_at : (grid : Ground) (xs : List Cell) (i : ℕ) (d : Cell) → EachIs (λ c. IsTrue (is_inside grid c)) xs → i < length xs → is_inside grid (get_or xs i d) ≡ true
inside_at grid xs i d each lt =
    subst (λ (c : Cell). IsTrue (is_inside grid c)) (sym (item_is xs i d)) (each_at (λ c. IsTrue (is_inside grid c)) xs d i each lt)
