-- Bits: the least bit in which two digests differ.
use Rattle.std.proofs.Common.{◌≡◌, inl, inr, ℕ, zero, suc, ◌+◌, ◌-◌, ◌*◌, ◌/◌, ◌%◌, ◌<◌, ◌≤◌, Bool, true, false, List, ◌++◌, None, Some, length, refl, sym, ap, ◌∙◌, arith}
use Rattle.std.specs.Prelude.{Option, find, if◌then◌else◌, not, slice_index, unwrap_or}
use Rattle.std.specs.Int.{bit_at, to_be_bytes, w32}
use Rattle.std.specs.List.{range_with_len}
use Rattle.std.proofs.lemmas.Bool.{both_ways, cases_lt, eq-eqb, eqb-true, false≢true, ne_eqb, not-false, not-true}
use Rattle.std.proofs.lemmas.List.{ext_get_or, get_or-append_right, get_or_append_left}
use Rattle.std.proofs.lemmas.Nat.{mod_below}
use Rattle.std.proofs.lemmas.Nat.Bits.{same_from_bits_below}
use Rattle.plain_lemmas.proofs.Lists.{AreBytes, four_bytes}
use Rattle.definitions.proofs.Streams.{find-range, find-range-none}
use Rattle.sha2.specs.Sha256.{digest_bytes, sha256}
use Rattle.seal_keys.specs.Seals.{bit_of}
use Rattle.seal_blame.specs.Blames.{differ_in, first_bit, first_of_bits}

-- ---- digests are bytes

both_bytes : (xs ys : List ℕ) → AreBytes xs → AreBytes ys → AreBytes (xs ++ ys)
both_bytes xs ys f g i = elim (cases_lt i (length xs)) [
  | inl lt ↦ let e = get_or_append_left xs ys 0 i lt in let h = f i in omega arith
  | inr le ↦ let e = get_or-append_right xs ys (length xs) i 0 refl le in let h = g (i - length xs) in omega arith
]

word_bytes : (n : ℕ) → AreBytes (to_be_bytes w32 n)
word_bytes n = four_bytes _ _ _ _ (mod_below _ 256 (omega arith)) (mod_below _ 256 (omega arith)) (mod_below _ 256 (omega arith)) (mod_below _ 256 (omega arith))

digest_bytes_are : (h : List ℕ) (n : ℕ) → AreBytes (digest_bytes h n)
unfolding digest_bytes
digest_bytes_are h zero = λ i. omega arith
digest_bytes_are h (suc n) = both_bytes (digest_bytes h n) (to_be_bytes w32 (slice_index h n)) (digest_bytes_are h n) (word_bytes (slice_index h n))

pub sha256_bytes : (m : List ℕ) → AreBytes (sha256 m)
unfolding sha256
sha256_bytes m = digest_bytes_are _ 8

-- ---- digests with the same bits are the same

byte_same : (a b : List ℕ) (j : ℕ) → j < 32 → AreBytes a → AreBytes b → ((i : ℕ) → i < 256 → bit_of a i ≡ bit_of b i) → slice_index a j ≡ slice_index b j
unfolding bit_of
byte_same a b j lt f g same =
    same_from_bits_below 8 (slice_index a j) (slice_index b j) (f j) (g j) (λ p small.
    let i : ℕ = 8 * j + (7 - p) in
    let byte : i / 8 ≡ j = omega arith in
    let place : 7 - i % 8 ≡ p = omega arith in
    ap (λ (k : ℕ). bit_at (slice_index a k) p) (sym byte) ∙ ap (bit_at (slice_index a (i / 8))) (sym place) ∙ same i (omega arith)
    ∙ ap (bit_at (slice_index b (i / 8))) place ∙ ap (λ (k : ℕ). bit_at (slice_index b k) p) byte)

pub same_digests : (a b : List ℕ) → length a ≡ 32 → length b ≡ 32 → AreBytes a → AreBytes b → ((i : ℕ) → i < 256 → bit_of a i ≡ bit_of b i) → a ≡ b
same_digests a b la lb f g same = ext_get_or 0 a b (la ∙ sym lb) (λ j lt. byte_same a b j (omega arith) f g same)

-- ---- the least bit

none_before : (p : ℕ → Bool) (a n t g : ℕ) → find p (range_with_len a n) ≡ Some t → a ≤ g → g < t → p g ≡ false
none_before p a zero t g h le lt = absurd (cc)
none_before p a (suc n) t g h le lt = go (p a) refl h (λ rest more. none_before p (a + 1) n t g rest more lt)
  where
    go : (b : Bool) → p a ≡ b → (if b then Some a else find p (range_with_len (a + 1) n)) ≡ Some t →
        (find p (range_with_len (a + 1) n) ≡ Some t → a + 1 ≤ g → p g ≡ false) → p g ≡ false
    go true is e rest = let same : a ≡ t = cc in absurd (omega arith)
    go false is e rest = elim (cases_lt a g) [
      | inl less ↦ rest e (omega arith)
      | inr here ↦ let same : a ≡ g = omega arith in ap p (sym same) ∙ is
    ]

pub first_none : (one other : List ℕ) (n i : ℕ) → first_of_bits one other n ≡ None → i < n → differ_in one other i ≡ false
unfolding first_of_bits
first_none one other n i h lt = find-range-none (differ_in one other) 0 n i h (omega arith) (omega arith)

pub first_some : (one other : List ℕ) (n i : ℕ) → first_of_bits one other n ≡ Some i → (i < n) × (differ_in one other i ≡ true)
unfolding first_of_bits
first_some one other n i h = let k = find-range (differ_in one other) 0 n i h in let lt = k.1 in (omega arith, k.2)

least : (one other : List ℕ) (n j i : ℕ) → first_of_bits one other n ≡ Some j → i < j → differ_in one other i ≡ false
unfolding first_of_bits
least one other n j i h lt = none_before (differ_in one other) 0 n j i h (omega arith) lt

-- where none of the bits before differs, the first is found
pub first_found : (one other : List ℕ) (n i : ℕ) → ((g : ℕ) → g < i → differ_in one other g ≡ false) → differ_in one other i ≡ true → i < n → first_of_bits one other n ≡ Some i
first_found one other n i before here lt = go (first_of_bits one other n) refl
  where
    go : (o : Option ℕ) → first_of_bits one other n ≡ o → first_of_bits one other n ≡ Some i
    go None e = absurd (false≢true (sym (first_none one other n i e lt) ∙ here))
    go (Some j) e =
        let k = first_some one other n j e in
        let up : i ≤ j = elim (cases_lt j i) [ inl less ↦ absurd (false≢true (sym (before j less) ∙ k.1)) | inr le ↦ le ] in
        let down : j ≤ i = elim (cases_lt i j) [ inl less ↦ absurd (false≢true (sym (least one other n j i e less) ∙ here)) | inr le ↦ le ] in
        let same : j ≡ i = omega arith in
        e ∙ ap (λ (x : ℕ). Some x) same

pub first_bit_is : (one other : List ℕ) (i : ℕ) → first_of_bits one other 256 ≡ Some i → first_bit one other ≡ i
unfolding first_bit
first_bit_is one other i e = ap (λ (o : Option ℕ). unwrap_or o 0) e

pub first_bit_none : (one other : List ℕ) → first_of_bits one other 256 ≡ None → first_bit one other ≡ 0
unfolding first_bit
first_bit_none one other e = ap (λ (o : Option ℕ). unwrap_or o 0) e

same_bit : (one other : List ℕ) (i : ℕ) → differ_in one other i ≡ false → bit_of one i ≡ bit_of other i
same_bit one other i e = eqb-true (bit_of one i) (bit_of other i) (not-false _ e)

pub other_bit : (one other : List ℕ) (i : ℕ) → differ_in one other i ≡ true → bit_of one i ≡ bit_of other i → ⊥
other_bit one other i e same = both_ways _ (not-true _ e) (eq-eqb (bit_of one i) (bit_of other i) same)

-- different digests differ in the first bit that is found
pub first_differs : (one other : List ℕ) → length one ≡ 32 → length other ≡ 32 → AreBytes one → AreBytes other → (one ≡ other → ⊥) →
    (first_bit one other < 256) × (differ_in one other (first_bit one other) ≡ true)
first_differs one other la lb f g apart = go (first_of_bits one other 256) refl
  where
    go : (o : Option ℕ) → first_of_bits one other 256 ≡ o → (first_bit one other < 256) × (differ_in one other (first_bit one other) ≡ true)
    go None e = absurd (apart (same_digests one other la lb f g (λ i lt. same_bit one other i (first_none one other 256 i e lt))))
    go (Some i) e =
        let k = first_some one other 256 i e in
        let is = first_bit_is one other i e in
        let lt = k.0 in
        (omega arith, ap (differ_in one other) is ∙ k.1)

pub differs_by : (one other : List ℕ) (i a b : ℕ) → a ≡ bit_of one i → b ≡ bit_of other i → (a ≡ b → ⊥) → differ_in one other i ≡ true
differs_by one other i a b is its apart =
    ap not (ne_eqb (bit_of one i) (bit_of other i) (λ same. apart (is ∙ same ∙ sym its)))

-- where no bit differs
pub first_bit_zero : (one other : List ℕ) → ((g : ℕ) → g < 256 → differ_in one other g ≡ false) → first_bit one other ≡ 0
first_bit_zero one other none = go (first_of_bits one other 256) refl
  where
    go : (o : Option ℕ) → first_of_bits one other 256 ≡ o → first_bit one other ≡ 0
    go None e = first_bit_none one other e
    go (Some i) e = let k = first_some one other 256 i e in absurd (false≢true (sym (none i k.0) ∙ k.1))
