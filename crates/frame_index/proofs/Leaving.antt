-- Leaving: which logs are left, and which are chosen.
use Rattle.std.proofs.Common.{Bool, List, [], ap, arith, false, inl, inr, refl, suc, sym, true, zero, ℕ, ◌++◌, ◌+◌, ◌<◌, ◌≤◌, ◌∙◌, ◌∷◌, ◌≡◌, length, replicate, set}
use Rattle.std.specs.Prelude.{◌&&◌, ◌||◌, ◌==◌}
use Rattle.std.proofs.lemmas.Bool.{cases_lt, eq-eqb, eqb-false, eqb-true, false_from_ne_true}
use Rattle.std.proofs.lemmas.List.{length-set}
use Rattle.definitions.specs.declared.findings.Spot.{Spot}
use Rattle.frame_index.specs.Plain.{AreLeft, is_among, is_in}

-- by some of the spots these are left of the others
pub record LeftBy (old : List Bool) (spots : List Spot) (new : List Bool) : Type 0 where
  pub long : length new ≡ 64
  pub was : length old ≡ 64
  pub left : AreLeft old spots new

among_set : (xs : List Bool) (n : ℕ) (b : Bool) → n < length xs → is_among (set xs n b) n ≡ b
among_set [] n b lt = absurd (omega (arith, lt))
among_set (x ∷ xs) zero b lt = refl
among_set (x ∷ xs) (suc n) b lt = among_set xs n b (omega (arith, lt))

among_other : (xs : List Bool) (n i : ℕ) (b : Bool) → (i ≡ n → ⊥) → is_among (set xs n b) i ≡ is_among xs i
among_other [] n i b other = refl
among_other (x ∷ xs) zero zero b other = absurd (other refl)
among_other (x ∷ xs) zero (suc i) b other = refl
among_other (x ∷ xs) (suc n) zero b other = refl
among_other (x ∷ xs) (suc n) (suc i) b other = among_other xs n i b (λ e. other (ap suc e))

among_past : (xs : List Bool) (i : ℕ) → length xs ≤ i → is_among xs i ≡ false
among_past [] i le = refl
among_past (x ∷ xs) zero le = absurd (omega (arith, le))
among_past (x ∷ xs) (suc i) le = among_past xs i (omega (arith, le))

among_none : (n i : ℕ) → is_among (replicate n false) i ≡ false
among_none zero i = refl
among_none (suc n) zero = refl
among_none (suc n) (suc i) = among_none n i

and_false : (b : Bool) → (b && false) ≡ false
and_false true = refl
and_false false = refl

pub left_none : (old new : List Bool) → length old ≡ 64 → new ≡ replicate 64 false → LeftBy old [] new
left_none old new long is = record {
  long = ap length is;
  was = long;
  left = λ i. ap (λ xs. is_among xs i) is ∙ among_none 64 i ∙ sym (and_false (is_among old i));
}

in_more : (spots : List Spot) (s : Spot) (i : ℕ) → is_in (spots ++ s ∷ []) i ≡ (is_in spots i || (s.log == i))
in_more [] s i = go (s.log == i)
  where
    go : (b : Bool) → (b || false) ≡ (false || b)
    go true = refl
    go false = refl
in_more (x ∷ spots) s i = go (x.log == i) (in_more spots s i)
  where
    go : (b : Bool) → is_in (spots ++ s ∷ []) i ≡ (is_in spots i || (s.log == i)) → (b || is_in (spots ++ s ∷ []) i) ≡ ((b || is_in spots i) || (s.log == i))
    go true e = refl
    go false e = e

-- a spot of this log and none of the others
module _ (old new : List Bool) (spots : List Spot) (s : Spot) (w : LeftBy old spots new) where
  here : (i : ℕ) → s.log ≡ i → is_in (spots ++ s ∷ []) i ≡ true
  here i e = in_more spots s i ∙ go (is_in spots i) (eq-eqb s.log i e)
    where
      go : (b : Bool) → (s.log == i) ≡ true → (b || (s.log == i)) ≡ true
      go true t = refl
      go false t = t

  away : (i : ℕ) → (s.log ≡ i → ⊥) → is_in (spots ++ s ∷ []) i ≡ is_in spots i
  away i other = in_more spots s i ∙ go (is_in spots i) (false_from_ne_true (s.log == i) (λ t. other (eqb-true s.log i t)))
    where
      go : (b : Bool) → (s.log == i) ≡ false → (b || (s.log == i)) ≡ b
      go true f = refl
      go false f = f

  and_true : (b : Bool) → b ≡ (b && true)
  and_true true = refl
  and_true false = refl

  pub left_more : (b : Bool) → b ≡ is_among old s.log → s.log < 64 → LeftBy old (spots ++ s ∷ []) (set new s.log b)
  left_more b is lt = record { long = length-set new s.log b ∙ w.long; was = w.was; left = λ i. go i (s.log == i) refl }
    where
      go : (i : ℕ) (t : Bool) → (s.log == i) ≡ t → is_among (set new s.log b) i ≡ (is_among old i && is_in (spots ++ s ∷ []) i)
      go i true t =
          let same : s.log ≡ i = eqb-true s.log i t in
          let n = w.long in
          ap (is_among (set new s.log b)) (sym same) ∙ among_set new s.log b (omega arith) ∙ is ∙ ap (is_among old) same ∙ and_true (is_among old i) ∙ ap (λ (x : Bool). is_among old i && x) (sym (here i same))
      go i false t =
          let other : s.log ≡ i → ⊥ = eqb-false s.log i t in
          among_other new s.log i b (λ e. other (sym e)) ∙ w.left i ∙ ap (λ (x : Bool). is_among old i && x) (sym (away i other))

  pub left_past : 64 ≤ s.log → LeftBy old (spots ++ s ∷ []) new
  left_past le = record { long = w.long; was = w.was; left = λ i. go i (s.log == i) refl }
    where
      go : (i : ℕ) (t : Bool) → (s.log == i) ≡ t → is_among new i ≡ (is_among old i && is_in (spots ++ s ∷ []) i)
      go i true t =
          let same : s.log ≡ i = eqb-true s.log i t in
          let n = w.long in let m = w.was in
          among_past new i (omega arith) ∙ sym (ap (λ (x : Bool). x && is_in (spots ++ s ∷ []) i) (among_past old i (omega arith)))
      go i false t = w.left i ∙ ap (λ (x : Bool). is_among old i && x) (sym (away i (eqb-false s.log i t)))

pub none_more : (xs : List Bool) (n : ℕ) → is_among xs n ≡ false → ((i : ℕ) → i < n → is_among xs i ≡ false) → (i : ℕ) → i < n + 1 → is_among xs i ≡ false
none_more xs n here before i lt = elim (cases_lt i n) [
  | inl less ↦ before i less
  | inr ge ↦ let same : i ≡ n = omega (arith, lt, ge) in ap (is_among xs) same ∙ here
]

pub none_all : (xs : List Bool) (n : ℕ) → length xs ≤ n → ((i : ℕ) → i < n → is_among xs i ≡ false) → (i : ℕ) → is_among xs i ≡ false
none_all xs n long before i = elim (cases_lt i n) [
  | inl less ↦ before i less
  | inr ge ↦ among_past xs i (omega (arith, long, ge))
]

-- one more is told
pub told_more : (f : ℕ → Bool) (xs : List Bool) (n : ℕ) (b : Bool) → n < length xs → b ≡ f n → ((i : ℕ) → i < n → is_among xs i ≡ f i) → (i : ℕ) → i < n + 1 → is_among (set xs n b) i ≡ f i
told_more f xs n b lt is before i less = elim (cases_lt i n) [
  | inl below ↦ among_other xs n i b (λ e. omega (arith, below, e)) ∙ before i below
  | inr ge ↦ let same : i ≡ n = omega (arith, less, ge) in ap (is_among (set xs n b)) same ∙ among_set xs n b lt ∙ is ∙ ap f (sym same)
]
