-- Firsts: the first of a session's players, from one on, that passes a test.
use Rattle.std.proofs.Common.{◌≡◌, ℕ, zero, suc, ◌+◌, ◌-◌, ◌<◌, ◌≤◌, Bool, true, false, List, ◌∷◌, refl, sym, ap, ◌∙◌, arith, inl, inr, Option, Some, None}
use Rattle.std.specs.Prelude.{find, ◌||◌, if◌then◌else◌}
use Rattle.std.specs.Option.{option_or}
use Rattle.std.specs.List.{list_any, range_with_len}
use Rattle.std.proofs.lemmas.Bool.{cases_eq, false≢true}
use Rattle.definitions.specs.Lists.{first_of}

-- the players from one on, below a number
abbrev pub from : (a n : ℕ) → List ℕ
from a n = range_with_len a (n - a)

from_more : (a n : ℕ) → a < n → from a n ≡ a ∷ from (a + 1) n
from_more a n lt = let e : n - a ≡ suc (n - (a + 1)) = omega arith in ap (range_with_len a) e

pub find_later : (test : ℕ → Bool) (a n : ℕ) → a < n → test a ≡ false → find test (from a n) ≡ find test (from (a + 1) n)
find_later test a n lt t = ap (find test) (from_more a n lt) ∙ ap (λ (b : Bool). if b then Some a else find test (from (a + 1) n)) t

pub any_later : (test : ℕ → Bool) (a n : ℕ) → a < n → test a ≡ false → list_any test (from a n) ≡ list_any test (from (a + 1) n)
any_later test a n lt t = ap (list_any test) (from_more a n lt) ∙ ap (λ (b : Bool). b || list_any test (from (a + 1) n)) t

pub first_later : {Y : Type 0} (f : ℕ → Option Y) (a n : ℕ) → a < n → f a ≡ None → first_of f (from a n) ≡ first_of f (from (a + 1) n)
first_later f a n lt t = ap (first_of f) (from_more a n lt) ∙ ap (λ o. option_or o (first_of f (from (a + 1) n))) t

-- ---- where none passes

pub fails_find : (test : ℕ → Bool) (a n : ℕ) → ((k : ℕ) → a ≤ k → k < a + n → test k ≡ false) → find test (range_with_len a n) ≡ None
fails_find test a zero none = refl
fails_find test a (suc n) none =
    ap (λ (b : Bool). if b then Some a else find test (range_with_len (a + 1) n)) (none a (omega arith) (omega arith)) ∙ fails_find test (a + 1) n (λ k le lt. none k (omega arith) (omega arith))

pub first_fails : {Y : Type 0} (f : ℕ → Option Y) (a n k : ℕ) → first_of f (range_with_len a n) ≡ None → a ≤ k → k < a + n → f k ≡ None
first_fails f a zero k e le lt = absurd (omega arith)
first_fails {Y = Y} f a (suc n) k e le lt = go (f a) refl e (λ e le lt. first_fails f (a + 1) n k e le lt)
  where
    go : (o : Option Y) → f a ≡ o → option_or o (first_of f (range_with_len (a + 1) n)) ≡ None → (first_of f (range_with_len (a + 1) n) ≡ None → a + 1 ≤ k → k < a + 1 + n → f k ≡ None) → f k ≡ None
    go (Some y) t e ih = absurd (let none : Some y ≡ None = e in cc)
    go None t e ih = elim (cases_eq k a) [
      | inl same ↦ ap f same ∙ t
      | inr differs ↦ ih e (omega (arith, differs)) (omega arith)
    ]

pub any_fails : (test : ℕ → Bool) (a n k : ℕ) → list_any test (range_with_len a n) ≡ false → a ≤ k → k < a + n → test k ≡ false
any_fails test a zero k e le lt = absurd (omega arith)
any_fails test a (suc n) k e le lt = go (test a) refl e (λ e le lt. any_fails test (a + 1) n k e le lt)
  where
    go : (b : Bool) → test a ≡ b → (b || list_any test (range_with_len (a + 1) n)) ≡ false → (list_any test (range_with_len (a + 1) n) ≡ false → a + 1 ≤ k → k < a + 1 + n → test k ≡ false) → test k ≡ false
    go true t e ih = absurd (false≢true (sym e))
    go false t e ih = elim (cases_eq k a) [
      | inl same ↦ ap test same ∙ t
      | inr differs ↦ ih e (omega (arith, differs)) (omega arith)
    ]

pub fails_any : (test : ℕ → Bool) (a n : ℕ) → ((k : ℕ) → a ≤ k → k < a + n → test k ≡ false) → list_any test (range_with_len a n) ≡ false
fails_any test a zero none = refl
fails_any test a (suc n) none =
    ap (λ (b : Bool). b || list_any test (range_with_len (a + 1) n)) (none a (omega arith) (omega arith)) ∙ fails_any test (a + 1) n (λ k le lt. none k (omega arith) (omega arith))
