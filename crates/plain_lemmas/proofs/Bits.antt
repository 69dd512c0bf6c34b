-- Bits of words: what the operators do to the test that a bit is 1.
use Rattle.std.proofs.Common.{◌≡◌, ℕ, ◌+◌, ◌-◌, ◌*◌, ◌/◌, ◌%◌, ◌^◌, ◌<◌, ◌≤◌, false, sym, ap, ◌∙◌, arith}
use Rattle.std.specs.Prelude.{◌||◌, ◌&&◌, ◌==◌, bit_or, bit_and}
use Rattle.std.specs.Int.{bit_at}
use Rattle.std.proofs.lemmas.Bool.Decides.{nat_tests}
use Rattle.std.proofs.lemmas.Nat.{shr_split}
use Rattle.std.proofs.lemmas.Nat.Bits.{bit_at_and, bit_at_or, bit_at-lt, bit_at_cat_low, bit_at_cat_high, bit_at-zero, bit_at_above}

pub one_in-or : (a b i : ℕ) → (bit_at (bit_or a b) i == 1) ≡ ((bit_at a i == 1) || (bit_at b i == 1))
one_in-or a b i =
    let e = bit_at_or a b i in
    let p = bit_at-lt a i in
    let q = bit_at-lt b i in
    grind (arith, nat_tests)

pub one_in-and : (a b i : ℕ) → (bit_at (bit_and a b) i == 1) ≡ ((bit_at a i == 1) && (bit_at b i == 1))
one_in-and a b i =
    let e = bit_at_and a b i in
    let p = bit_at-lt a i in
    let q = bit_at-lt b i in
    grind (arith, nat_tests)

pub one_in-zero : (i : ℕ) → (bit_at 0 i == 1) ≡ false
one_in-zero i = let e = bit_at-zero i in grind (arith, nat_tests)

-- nothing stands above the bits of a word
pub one_above : (bits word i : ℕ) → word < 2 ^ bits → bits ≤ i → (bit_at word i == 1) ≡ false
one_above bits word i small high = ap (λ (b : ℕ). b == 1) (bit_at_above word bits i small high)

-- the low bits are those of the number
pub bit_at-low : (bits n i : ℕ) → i < bits → bit_at (n % 2 ^ bits) i ≡ bit_at n i
bit_at-low bits n i low =
    sym (bit_at_cat_low (n / 2 ^ bits) bits (n % 2 ^ bits) i low) ∙ ap (λ (m : ℕ). bit_at m i) (shr_split n bits)

pub bit_at-shl_low : (n k i : ℕ) → i < k → bit_at (n * 2 ^ k) i ≡ 0
bit_at-shl_low n k i low =
    let e = bit_at_cat_low n k 0 i low in
    let z = bit_at-zero i in
    let same : n * 2 ^ k + 0 ≡ n * 2 ^ k = omega arith in
    ap (λ (m : ℕ). bit_at m i) (sym same) ∙ e ∙ z

pub bit_at-shl_high : (n k i : ℕ) → k ≤ i → 0 < 2 ^ k → bit_at (n * 2 ^ k) i ≡ bit_at n (i - k)
bit_at-shl_high n k i high some =
    let e = bit_at_cat_high n k 0 i some high in
    let same : n * 2 ^ k + 0 ≡ n * 2 ^ k = omega arith in
    ap (λ (m : ℕ). bit_at m i) (sym same) ∙ e
