-- Bits of a window's words: what the operators do to them.
use Rattle.std.proofs.Common.{◌≡◌, ℕ, zero, suc, ◌⊎◌, replicate, ◌+◌, ◌-◌, ◌*◌, ◌/◌, ◌%◌, ◌^◌, ◌<◌, ◌≤◌, Bool, true, false, List, length, refl, sym, ap, ◌∙◌, arith, inl, inr, get_or, slice_index}
use Rattle.std.specs.Prelude.{◌||◌, ◌&&◌, ◌==◌, bit_or, bit_and, if◌then◌else◌, nat_lt}
use Rattle.std.specs.Int.{bit_at, w32}
use Rattle.std.proofs.Math.ListN.{set}
use Rattle.std.proofs.lemmas.Bool.{cases_eq, cases_lt, eq-eqb, lt-ltb}
use Rattle.std.proofs.lemmas.Bool.Decides.{nat_tests}
use Rattle.std.proofs.lemmas.List.{get_or-set_same, get_or-set_other, get_or_past}
use Rattle.std.proofs.lemmas.Nat.{shr-shr}
use Rattle.std.proofs.lemmas.Nat.Bits.{shr_and_one, bit_at_set_same, bit_at_set_other}
use Rattle.move_rules.specs.Windows.{is_set, lit, near, near_place}
use Rattle.plain_lemmas.proofs.Bits.{bit_at-low, bit_at-shl_high, bit_at-shl_low, one_above, one_in-and, one_in-or, one_in-zero}

is_set-or : (a b i : ℕ) → is_set (bit_or a b) i ≡ (is_set a i || is_set b i)
unfolding is_set
is_set-or = one_in-or

is_set-and : (a b i : ℕ) → is_set (bit_and a b) i ≡ (is_set a i && is_set b i)
unfolding is_set
is_set-and = one_in-and

is_set-zero : (i : ℕ) → is_set 0 i ≡ false
unfolding is_set
is_set-zero = one_in-zero

-- nothing stands above bit 31
is_set-above : (word i : ℕ) → word < 4294967296 → 32 ≤ i → is_set word i ≡ false
unfolding is_set
is_set-above = one_above 32

-- a word moved up by one
up_by_one : (word i : ℕ) → i < 32 → is_set (word * 2 % 4294967296) i ≡ (if i == 0 then false else is_set word (i - 1))
unfolding is_set
up_by_one word i low =
    let e : bit_at (word * 2 % 4294967296) i ≡ bit_at (word * 2 ^ 1) i = bit_at-low 32 (word * 2 ^ 1) i low in
    let first : i < 1 → bit_at (word * 2 ^ 1) i ≡ 0 = bit_at-shl_low word 1 i in
    let later : 1 ≤ i → bit_at (word * 2 ^ 1) i ≡ bit_at word (i - 1) = λ h. bit_at-shl_high word 1 i h (omega arith) in
    grind (arith, nat_tests)

-- a word moved down by one
down_by_one : (word i : ℕ) → is_set (word / 2) i ≡ is_set word (i + 1)
unfolding is_set
down_by_one word i =
    let e : bit_at (word / 2) i ≡ bit_at word (1 + i) = ap (λ (m : ℕ). m % 2) (shr-shr word 1 i) in
    let same : 1 + i ≡ i + 1 = omega arith in
    ap (λ (b : ℕ). b == 1) (e ∙ ap (λ (k : ℕ). bit_at word k) same)

-- a word joined with itself moved up and down by one
pub set_near : (word i : ℕ) → i < 32 → is_set (bit_or word (bit_or (word * 2 % 4294967296) (word / 2))) i ≡ near (is_set word) i
set_near word i low =
    is_set-or word (bit_or (word * 2 % 4294967296) (word / 2)) i
    ∙ ap (λ (b : Bool). is_set word i || b) (is_set-or (word * 2 % 4294967296) (word / 2) i)
    ∙ beside i (is_set (word * 2 % 4294967296) i) (is_set (word / 2) i) (is_set word (i - 1)) (is_set word i) (is_set word (i + 1))
    (up_by_one word i low) (down_by_one word i) (λ e. let back : i - 1 ≡ i = omega (arith, e) in ap (is_set word) back)
  where
    beside : (i : ℕ) (up down before here after : Bool) → up ≡ (if i == 0 then false else before) → down ≡ after → (i ≡ 0 → before ≡ here)
        → (here || (up || down)) ≡ (before || (here || after))
    beside i up down before here after e f g = grind (arith, nat_tests)

-- a word with one more bit
pub set_more : (word column i : ℕ) → column < 32 → is_set (bit_or word (1 * 2 ^ column % 4294967296)) i ≡ (is_set word i || (true && (i == column)))
unfolding is_set
set_more word column i low =
    elim (cases_eq i column) [
      | inl here ↦
          let one : bit_at (bit_or word (1 * 2 ^ column % 4294967296)) i ≡ 1 = rw here (bit_at_set_same w32 word column low) in
          let same : (i == column) ≡ true = eq-eqb i column here in
          grind (arith, nat_tests)
      | inr other ↦
          let old : bit_at (bit_or word (1 * 2 ^ column % 4294967296)) i ≡ bit_at word i = bit_at_set_other w32 word column low i other in
          grind (arith, nat_tests)
    ]

-- three words joined, where each bit is looked at with those beside it
near_joined : (a b c i : ℕ) → near (is_set (bit_or a (bit_or b c))) i ≡ near (λ n. is_set a n || (is_set b n || is_set c n)) i
near_joined a b c i =
    let joined : (n : ℕ) → is_set (bit_or a (bit_or b c)) n ≡ (is_set a n || (is_set b n || is_set c n))
    = λ n. is_set-or a (bit_or b c) n ∙ ap (λ (t : Bool). is_set a n || t) (is_set-or b c n) in
    let p = joined (i - 1) in
    let q = joined i in
    let r = joined (i + 1) in
    grind arith

-- the open bits of a row at a bit of the three rows or beside one
pub row_next : (opens rows : List ℕ) (r o a b c wide i : ℕ) → o < 4294967296 → o ≡ slice_index opens r → a ≡ slice_index rows (r - 1) → b ≡ slice_index rows r → c ≡ slice_index rows (r + 1)
    → ((i : ℕ) → i < 32 → is_set wide i ≡ near (is_set (bit_or a (bit_or b c))) i)
    → is_set (bit_and o wide) i ≡ (lit opens i r && near_place (lit rows) i r)
unfolding lit
row_next opens rows r o a b c wide i small o_is a_is b_is c_is spread =
    is_set-and o wide i
    ∙ open_part (lt_or i)
    ∙ ap (λ (w : ℕ). is_set w i && near (λ n. is_set a n || (is_set b n || is_set c n)) i) o_is
    ∙ ap (λ (w : ℕ). is_set (slice_index opens r) i && near (λ n. is_set w n || (is_set b n || is_set c n)) i) a_is
    ∙ ap (λ (w : ℕ). is_set (slice_index opens r) i && near (λ n. is_set (slice_index rows (r - 1)) n || (is_set w n || is_set c n)) i) b_is
    ∙ ap (λ (w : ℕ). is_set (slice_index opens r) i && near (λ n. is_set (slice_index rows (r - 1)) n || (is_set (slice_index rows r) n || is_set w n)) i) c_is
  where
    lt_or : (i : ℕ) → (i < 32) ⊎ (32 ≤ i)
    lt_or i = cases_lt i 32

    open_part : (i < 32) ⊎ (32 ≤ i) → (is_set o i && is_set wide i) ≡ (is_set o i && near (λ n. is_set a n || (is_set b n || is_set c n)) i)
    open_part (inl lt) = ap (λ (t : Bool). is_set o i && t) (spread i lt ∙ near_joined a b c i)
    open_part (inr le) = let none = is_set-above o i small le in rw none refl

-- the bits of rows where one row is written
pub lit_set : (rows : List ℕ) (k v i r : ℕ) → k < length rows → lit (set rows k v) i r ≡ (if r == k then is_set v i else lit rows i r)
unfolding lit
lit_set rows k v i r lt =
    elim (cases_eq r k) [
      | inl here ↦
          let at : get_or (set rows k v) r 0 ≡ v = rw here (get_or-set_same rows k v 0 lt) in
          let same : (r == k) ≡ true = eq-eqb r k here in
          ap (λ (w : ℕ). is_set w i) at ∙ sym (rw same refl)
      | inr other ↦
          let at : get_or (set rows k v) r 0 ≡ get_or rows r 0 = get_or-set_other rows k r v 0 other in
          let e = ap (λ (w : ℕ). is_set w i) at in
          grind (arith, nat_tests)
    ]

-- past the last row no bit is 1
pub lit_past : (rows : List ℕ) (i r : ℕ) → length rows ≤ r → lit rows i r ≡ false
unfolding lit
lit_past rows i r past = ap (λ (w : ℕ). is_set w i) (get_or_past rows r 0 past) ∙ is_set-zero i

-- rows of zeros
pub lit_zeros : (n i r : ℕ) → lit (replicate n 0) i r ≡ false
unfolding lit
lit_zeros zero i r = is_set-zero i
lit_zeros (suc n) i zero = is_set-zero i
lit_zeros (suc n) i (suc r) = lit_zeros n i r

-- a row more
pub rows_more : (rows : List ℕ) (k v : ℕ) (p : ℕ → ℕ → Bool) → k < length rows → ((i r : ℕ) → lit rows i r ≡ (nat_lt r k && p i r)) → ((i : ℕ) → is_set v i ≡ p i k)
    → (i r : ℕ) → lit (set rows k v) i r ≡ (nat_lt r (k + 1) && p i r)
rows_more rows k v p lt before new i r =
    lit_set rows k v i r lt
    ∙ elim (cases_eq r k) [
      | inl here ↦
          let at : (r == k) ≡ true = eq-eqb r k here in
          let n : is_set v i ≡ p i r = new i ∙ ap (p i) (sym here) in
          grind (arith, nat_tests)
      | inr other ↦ let b = before i r in grind (arith, nat_tests)
    ]

-- a column more
pub word_more : (word new k : ℕ) (on : Bool) (p : ℕ → Bool) → ((i : ℕ) → is_set word i ≡ (nat_lt i k && p i)) → on ≡ p k → ((i : ℕ) → is_set new i ≡ (is_set word i || (on && (i == k))))
    → (i : ℕ) → is_set new i ≡ (nat_lt i (k + 1) && p i)
word_more word new k on p before on_is more i =
    more i
    ∙ elim (cases_eq i k) [
      | inl here ↦
          let at : (i == k) ≡ true = eq-eqb i k here in
          let b = before i in
          let q : on ≡ p i = on_is ∙ ap p (sym here) in
          grind (arith, nat_tests)
      | inr other ↦ let b = before i in grind (arith, nat_tests)
    ]

-- one bit alone
pub rows_one : (rows : List ℕ) (k v i r : ℕ) → k < length rows → ((i r : ℕ) → lit rows i r ≡ false) → ((i : ℕ) → is_set v i ≡ (is_set 0 i || (true && (i == k))))
    → lit (set rows k v) i r ≡ ((r == k) && (i == k))
rows_one rows k v i r lt none one =
    lit_set rows k v i r lt
    ∙ elim (cases_eq r k) [
      | inl here ↦
          let at : (r == k) ≡ true = eq-eqb r k here in
          let o = one i in
          let z = is_set-zero i in
          grind (arith, nat_tests)
      | inr other ↦ let n = none i r in grind (arith, nat_tests)
    ]

pub rows_begun : (rows : List ℕ) (p : ℕ → ℕ → Bool) → ((i r : ℕ) → lit rows i r ≡ false) → (i r : ℕ) → lit rows i r ≡ (nat_lt r 0 && p i r)
rows_begun rows p none i r = let n = none i r in grind (arith, nat_tests)

pub word_begun : (p : ℕ → Bool) (i : ℕ) → is_set 0 i ≡ (nat_lt i 0 && p i)
word_begun p i = let n = is_set-zero i in grind (arith, nat_tests)

-- every row is done
pub rows_all : (opens rows : List ℕ) (k : ℕ) (p : ℕ → ℕ → Bool) → length opens ≤ k → ((i r : ℕ) → lit rows i r ≡ (nat_lt r k && (lit opens i r && p i r))) → (i r : ℕ) → lit rows i r ≡ (lit opens i r && p i r)
rows_all opens rows k p all done i r =
    let d = done i r in
    elim (cases_lt r k) [
      | inl lt ↦ let t : nat_lt r k ≡ true = lt-ltb r k lt in grind (arith, nat_tests)
      | inr le ↦ let n = lit_past opens i r (omega arith) in grind (arith, nat_tests)
    ]

-- a bit as it is read
pub bit_lit : (rows : List ℕ) (row place column : ℕ) → row ≡ slice_index rows place → (bit_and (row / 2 ^ column) 1 == 1) ≡ lit rows column place
unfolding lit is_set
bit_lit rows row place column row_is = ap (λ (b : ℕ). b == 1) (shr_and_one row column) ∙ ap (λ (w : ℕ). bit_at w column == 1) row_is
