-- Changes: words that are written anew one after another, and whether one of them changed.
use Rattle.std.proofs.Common.{◌≡◌, ℕ, ◌+◌, ◌<◌, ◌≤◌, List, length, refl, sym, ap, ◌∙◌, arith, inl, inr, slice_index}
use Rattle.std.specs.Prelude.{◌↔◌, bit_or, bit_xor}
use Rattle.std.specs.Int.Bits.{or_add_and, xor_add_and, xor_self}
use Rattle.std.proofs.Math.ListN.{set}
use Rattle.std.proofs.lemmas.Bool.{cases_eq}
use Rattle.std.proofs.lemmas.List.{get_or-set_same, get_or-set_other}
use Rattle.std.proofs.lemmas.Grind.{same_number_lists}
use Rattle.std.proofs.lemmas.Nat.{and_le_l, and_le_r}

-- a joined word is 0 where both are
pub or_zero : (a b : ℕ) → bit_or a b ≡ 0 → (a ≡ 0) × (b ≡ 0)
or_zero a b none =
    let sum = or_add_and a b in
    let left = and_le_l a b in
    let right = and_le_r a b in
    (omega arith, omega arith)

pub zeros_or : (a b : ℕ) → a ≡ 0 → b ≡ 0 → bit_or a b ≡ 0
zeros_or a b left right = ap (λ (n : ℕ). bit_or n b) left ∙ right

-- words differ in no bit where they are the same
xor_zero : (a b : ℕ) → bit_xor a b ≡ 0 → a ≡ b
xor_zero a b none =
    let sum = xor_add_and a b in
    let left = and_le_l a b in
    let right = and_le_r a b in
    omega arith

xor_same : (a b : ℕ) → a ≡ b → bit_xor a b ≡ 0
xor_same a b same = ap (λ (n : ℕ). bit_xor a n) (sym same) ∙ xor_self a

-- the first i words are the same exactly where `change` is 0, and the others are
pub record IsWritten (old new : List ℕ) (i change : ℕ) : Type 0 where
  pub still : change ≡ 0 → (k : ℕ) → k < i → slice_index new k ≡ slice_index old k
  pub tells : ((k : ℕ) → k < i → slice_index new k ≡ slice_index old k) → change ≡ 0
  pub rest : (k : ℕ) → i ≤ k → slice_index new k ≡ slice_index old k

pub written_none : (old : List ℕ) → IsWritten old old 0 0
written_none old = record { still = λ none k lt. refl; tells = λ same. refl; rest = λ k le. refl }

-- one word more
pub written_more : (old row : List ℕ) (i change word : ℕ) → i < length row → IsWritten old row i change
    → IsWritten old (set row i word) (i + 1) (bit_or change (bit_xor (slice_index row i) word))
written_more old row i change word lt so_far = record {
  still = λ none k below.
      let both = or_zero change (bit_xor (slice_index row i) word) none in
      elim (cases_eq k i) [
        | inl here ↦ rw here (get_or-set_same row i word 0 lt ∙ sym (xor_zero (slice_index row i) word both.1) ∙ so_far.rest i (omega arith))
        | inr other ↦ get_or-set_other row i k word 0 other ∙ so_far.still both.0 k (omega (arith, other))
      ];
  tells = λ same.
      zeros_or change (bit_xor (slice_index row i) word)
      (so_far.tells (λ k below. sym (get_or-set_other row i k word 0 (λ e. absurd (omega (arith, e)))) ∙ same k (omega arith)))
      (xor_same (slice_index row i) word (so_far.rest i (omega arith) ∙ sym (same i (omega arith)) ∙ get_or-set_same row i word 0 lt));
  rest = λ k le. get_or-set_other row i k word 0 (λ e. absurd (omega (arith, e))) ∙ so_far.rest k (omega arith);
}

-- a word that is written has its value, and the others keep theirs
pub words_more : (row : List ℕ) (i word : ℕ) (of : ℕ → ℕ) → i < length row → word ≡ of i → ((k : ℕ) → k < i → slice_index row k ≡ of k)
    → (k : ℕ) → k < i + 1 → slice_index (set row i word) k ≡ of k
words_more row i word of lt is so_far k below =
    elim (cases_eq k i) [
      | inl here ↦ rw here (get_or-set_same row i word 0 lt ∙ is)
      | inr other ↦ get_or-set_other row i k word 0 other ∙ so_far k (omega (arith, other))
    ]

-- all words are the same exactly where `change` is 0
pub written_all : (old new : List ℕ) (i change : ℕ) → length new ≡ length old → length old ≤ i → IsWritten old new i change → (change ≡ 0) ↔ (new ≡ old)
written_all old new i change len all written = (
  λ none. same_number_lists new old len (λ k below. written.still none k (omega arith)),
  λ same. written.tells (λ k below. ap (λ (row : List ℕ). slice_index row k) same),
)
