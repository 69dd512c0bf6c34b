-- Totals: sums of a function over the first so many numbers.
use Rattle.std.proofs.Common.{◌≡◌, ℕ, zero, suc, ◌+◌, ◌<◌, ◌≤◌, refl, sym, ap, ◌∙◌, inl, inr, arith}
use Rattle.std.specs.Prelude.{◌==◌, if◌then◌else◌}
use Rattle.std.proofs.lemmas.Bool.{cases_eq, cond-true, cond-false, eq-eqb, ne_eqb}

-- the sum of the function at 0, 1 and so on, below a number
unfoldable pub total : (ℕ → ℕ) → ℕ → ℕ
total f zero = 0
total f (suc n) = total f n + f n

sums : (a b c d : ℕ) → a ≡ b → c ≡ d → a + c ≡ b + d
sums a b c d e f = omega (arith, e, f)

less : (a b c d : ℕ) → a ≤ b → c ≤ d → a + c ≤ b + d
less a b c d e f = omega (arith, e, f)

pub total_same : (f g : ℕ → ℕ) (n : ℕ) → ((k : ℕ) → k < n → f k ≡ g k) → total f n ≡ total g n
unfolding total
total_same f g zero same = refl
total_same f g (suc n) same =
    sums (total f n) (total g n) (f n) (g n) (total_same f g n (λ k lt. same k (omega (arith, lt)))) (same n (omega arith))

pub total_most : (f g : ℕ → ℕ) (n : ℕ) → ((k : ℕ) → k < n → f k ≤ g k) → total f n ≤ total g n
unfolding total
total_most f g zero most = omega arith
total_most f g (suc n) most =
    less (total f n) (total g n) (f n) (g n) (total_most f g n (λ k lt. most k (omega (arith, lt)))) (most n (omega arith))

more_last : (a b c d : ℕ) → a ≡ b → c ≡ d + 1 → a + c ≡ b + d + 1
more_last a b c d e f = omega (arith, e, f)

more_before : (a b c d : ℕ) → a ≡ b + 1 → c ≡ d → a + c ≡ b + d + 1
more_before a b c d e f = omega (arith, e, f)

-- one more at one number is one more
pub total_more : (f g : ℕ → ℕ) (n i : ℕ) → i < n → g i ≡ f i + 1 → ((k : ℕ) → (k ≡ i → ⊥) → g k ≡ f k) → total g n ≡ total f n + 1
unfolding total
total_more f g zero i lt at off = absurd (omega (arith, lt))
total_more f g (suc n) i lt at off = elim (cases_eq i n) [
  | inl same ↦
      more_last (total g n) (total f n) (g n) (f n) (total_same g f n (λ k low. off k (λ e. absurd (omega (arith, low, e, same)))))
      (ap g (sym same) ∙ at ∙ ap (λ (k : ℕ). f k + 1) same)
  | inr differs ↦
      more_before (total g n) (total f n) (g n) (f n) (total_more f g n i (omega (arith, lt, differs)) at off) (off n (λ e. differs (sym e)))
]

-- the same number everywhere but at one
abbrev pub but_at : (i m : ℕ) → ℕ → ℕ
but_at i m k = if k == i then 0 else m

pub but_off : (i m k : ℕ) → (k ≡ i → ⊥) → but_at i m k ≡ m
but_off i m k differs = cond-false (k == i) 0 m (ne_eqb k i differs)

pub but_on : (i m k : ℕ) → k ≡ i → but_at i m k ≡ 0
but_on i m k same = cond-true (k == i) 0 m (eq-eqb k i same)

-- there it is one number less
pub total_but : (i m n : ℕ) → i < n → total (but_at i m) n + m ≡ total (λ _. m) n
unfolding total
total_but i m zero lt = absurd (omega (arith, lt))
total_but i m (suc n) lt = elim (cases_eq i n) [
  | inl same ↦
      let before : total (but_at i m) n ≡ total (λ _. m) n = total_same (but_at i m) (λ _. m) n (λ k low. but_off i m k (λ e. absurd (omega (arith, low, e, same)))) in
      let last : but_at i m n ≡ 0 = but_on i m n (sym same) in
      lasts (total (but_at i m) n) (but_at i m n) (total (λ _. m) n) before last
  | inr differs ↦
      let ih : total (but_at i m) n + m ≡ total (λ _. m) n = total_but i m n (omega (arith, lt, differs)) in
      let last : but_at i m n ≡ m = but_off i m n (λ e. differs (sym e)) in
      befores (total (but_at i m) n) (but_at i m n) (total (λ _. m) n) ih last
]
  where
    lasts : (a b c : ℕ) → a ≡ c → b ≡ 0 → a + b + m ≡ c + m
    lasts a b c e f = omega (arith, e, f)

    befores : (a b c : ℕ) → a + m ≡ c → b ≡ m → a + b + m ≡ c + m
    befores a b c e f = omega (arith, e, f)

-- ---- of eight

pub all_zero : total (λ _. 0) 8 ≡ 0
unfolding total
all_zero = refl

pub all_200 : total (λ _. 200) 8 ≡ 1600
unfolding total
all_200 = refl

pub all_400 : total (λ _. 400) 8 ≡ 3200
unfolding total
all_400 = refl

pub all_2800 : total (λ _. 2800) 8 ≡ 22400
unfolding total
all_2800 = refl
