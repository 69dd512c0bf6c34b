-- Tests: choices by a test, tests that pass together, and tests of a number and those beside it.
use Rattle.std.proofs.Common.{◌≡◌, ◌⊎◌, inl, inr, ℕ, ◌+◌, ◌-◌, ◌≤◌, Bool, true, false, refl, sym, ap, ◌∙◌, arith}
use Rattle.std.specs.Prelude.{◌||◌, if◌then◌else◌, not}
use Rattle.std.proofs.lemmas.Bool.{or_cases, or_left, or_right, cases_order}

-- a choice, by how its test went
pub chosen : {A : Type 0} (b : Bool) (x y z : A) → (if b then x else y) ≡ z → ((b ≡ true) × (x ≡ z)) ⊎ ((b ≡ false) × (y ≡ z))
chosen true x y z h = inl (refl, h)
chosen false x y z h = inr (refl, h)

-- what holds of both holds of the chosen one
pub of_chosen : {A : Type 0} (P : A → Type 0) (b : Bool) (x y : A) → P x → P y → P (if b then x else y)
of_chosen P true x y p q = p
of_chosen P false x y p q = q

-- tests that pass together are the same
pub same_tests : (a b : Bool) → (a ≡ true → b ≡ true) → (b ≡ true → a ≡ true) → a ≡ b
same_tests a b to from = grind arith

-- a test that fails, where one that passes only with it fails
pub not_kept : (a b : Bool) → (b ≡ true → a ≡ true) → not a ≡ true → not b ≡ true
not_kept a true f h = let e = f refl in grind arith
not_kept a false f h = refl

-- a number at which a test passes, where it passes at this one or beside it
pub near_at : (p : ℕ → Bool) (n : ℕ) → (p (n - 1) || (p n || p (n + 1))) ≡ true → (m : ℕ) × (n ≤ m + 1) × (m ≤ n + 1) × (p m ≡ true)
near_at p n h =
    elim (or_cases (p (n - 1)) (p n || p (n + 1)) h) [
      | inl before ↦ (n - 1, omega arith, omega arith, before)
      | inr rest ↦
          elim (or_cases (p n) (p (n + 1)) rest) [
            | inl here ↦ (n, omega arith, omega arith, here)
            | inr after ↦ (n + 1, omega arith, omega arith, after)
          ]
    ]

-- a test that passes at a number beside this one
pub near_from : (p : ℕ → Bool) (n m : ℕ) → n ≤ m + 1 → m ≤ n + 1 → p m ≡ true → (p (n - 1) || (p n || p (n + 1))) ≡ true
near_from p n m low high h =
    elim (cases_order m n) [
      | inl same ↦ or_right (p (n - 1)) (p n || p (n + 1)) (or_left (p n) (p (n + 1)) (ap p (sym same) ∙ h))
      | inr apart ↦
          elim apart [
            | inl less ↦
                let is : n - 1 ≡ m = omega arith in
                or_left (p (n - 1)) (p n || p (n + 1)) (ap p is ∙ h)
            | inr more ↦
                let is : n + 1 ≡ m = omega arith in
                or_right (p (n - 1)) (p n || p (n + 1)) (or_right (p n) (p (n + 1)) (ap p is ∙ h))
          ]
    ]
