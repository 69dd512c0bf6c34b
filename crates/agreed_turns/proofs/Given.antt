-- Given: the moves that logs give of a turn, where one log comes to give one.
use Rattle.std.proofs.Common.{List, None, Option, Some, [], ap, arith, inl, inr, refl, suc, sym, zero, ℕ, ◌+◌, ◌++◌, ◌<◌, ◌∙◌, ◌∷◌, ◌≡◌, ◌≤◌}
use Rattle.std.specs.Prelude.{filter_map}
use Rattle.std.specs.List.{cons_option, range_with_len}
use Rattle.std.proofs.lemmas.Bool.{cases_eq}
use Rattle.definition_laws.specs.Members.{Has}
use Rattle.definition_laws.proofs.Members.{range_Has}

-- two functions that give the same of all items
pub same_given : {X Y : Type 0} (f g : X → Option Y) (xs : List X) → ((x : X) → Has xs x → f x ≡ g x) → filter_map f xs ≡ filter_map g xs
same_given f g [] same = refl
same_given {Y = Y} f g (x ∷ xs) same =
    ap (λ (o : Option Y). cons_option o (filter_map f xs)) (same x (inl refl)) ∙ ap (cons_option (g x)) (same_given f g xs (λ y there. same y (inr there)))

-- where nothing is given of each number of a range
pub none_given : {Y : Type 0} (f : ℕ → Option Y) (a n : ℕ) → ((j : ℕ) → f j ≡ None) → filter_map f (range_with_len a n) ≡ []
none_given f a zero none = refl
none_given {Y} f a (suc n) none =
    ap (λ (o : Option Y). cons_option o (filter_map f (range_with_len (a + 1) n))) (none a) ∙ none_given f (a + 1) n none

-- what is given of the numbers of a range before and after one gave something stands in two parts, between which that comes
pub record HasCome {Y : Type 0} (old new : List Y) (y : Y) : Type 0 where
  pub front : List Y
  pub back : List Y
  pub before : old ≡ front ++ back
  pub after : new ≡ front ++ y ∷ back

module _ {Y : Type 0} (f g : ℕ → Option Y) (i : ℕ) (y : Y) (none : f i ≡ None) (some : g i ≡ Some y) (others : (j : ℕ) → (j ≡ i → ⊥) → f j ≡ g j) where
  behind : (o : Option Y) (old new : List Y) → HasCome old new y → HasCome (cons_option o old) (cons_option o new) y
  behind None old new come = come
  behind (Some x) old new come = record {
    front = x ∷ come.front;
    back = come.back;
    before = ap (λ (ys : List Y). x ∷ ys) come.before;
    after = ap (λ (ys : List Y). x ∷ ys) come.after;
  }

  comes_first : (a n : ℕ) → a ≡ i → HasCome (filter_map f (range_with_len a (suc n))) (filter_map g (range_with_len a (suc n))) y
  comes_first a n e = record {
    front = [];
    back = filter_map f (range_with_len (a + 1) n);
    before = ap (λ (o : Option Y). cons_option o (filter_map f (range_with_len (a + 1) n))) (ap f e ∙ none);
    after = ap (λ (o : Option Y). cons_option o (filter_map g (range_with_len (a + 1) n))) (ap g e ∙ some)
        ∙ ap (λ (ys : List Y). y ∷ ys) (sym (same_given f g (range_with_len (a + 1) n) (λ j there. others j (λ same. let r = (range_Has (a + 1) n j there).0 in absurd (omega arith)))));
  }

  later : (a n : ℕ) → (a ≡ i → ⊥) → HasCome (filter_map f (range_with_len (a + 1) n)) (filter_map g (range_with_len (a + 1) n)) y →
      HasCome (filter_map f (range_with_len a (suc n))) (filter_map g (range_with_len a (suc n))) y
  later a n ne come =
      let more = behind (f a) _ _ come in
      record {
        front = more.front;
        back = more.back;
        before = more.before;
        after = ap (λ (o : Option Y). cons_option o (filter_map g (range_with_len (a + 1) n))) (sym (others a ne)) ∙ more.after;
      }

  pub has_come : (a n : ℕ) → a ≤ i → i < a + n → HasCome (filter_map f (range_with_len a n)) (filter_map g (range_with_len a n)) y
  has_come a zero le lt = absurd (omega arith)
  has_come a (suc n) le lt = elim (cases_eq a i) [
    | inl e ↦ comes_first a n e
    | inr ne ↦ later a n ne (has_come (a + 1) n (omega arith) (omega arith))
  ]
