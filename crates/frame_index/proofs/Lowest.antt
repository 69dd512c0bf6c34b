-- Lowest: the one that is found has the least spot.
use Rattle.std.proofs.Common.{Bool, List, None, Some, [], ap, arith, false, inl, inr, refl, subst, sym, true, ◌++◌, ◌<◌, ◌∙◌, ◌∷◌, ◌≡◌, ◌≤◌, ◌⊎◌, Option, append_assoc}
use Rattle.std.specs.Prelude.{◌==◌, ◌&&◌, ◌||◌, nat_lt}
use Rattle.std.proofs.lemmas.Bool.{false≢true, or_parts, and_parts, and_cases, ltb-true, ltb-false, eqb-true, eqb-false, cases_lt}
use Rattle.std.proofs.lemmas.List.{append-nil}
use Rattle.definitions.specs.declared.findings.Spot.{Spot}
use Rattle.definition_laws.specs.Members.{Has}
use Rattle.definition_laws.specs.Spots.{SpotBefore}
use Rattle.definition_laws.proofs.Members.{Has_append, Has_front, Has_back}
use Rattle.definition_laws.proofs.Sighted.{spot_from}
use Rattle.frame_index.specs.declared.seen.Seen.{Seen}
use Rattle.frame_index.specs.Wants.{is_before, lower, least_from}
use Rattle.frame_index.specs.Keeps.{NotAfter, IsLeast}

pub before_true : (s t : Spot) → is_before s t ≡ true → SpotBefore s t
before_true s t h = go (nat_lt s.log t.log) refl h
  where
    go : (b : Bool) → nat_lt s.log t.log ≡ b → (b || ((s.log == t.log) && nat_lt s.entry t.entry)) ≡ true → SpotBefore s t
    go true e h = inl (ltb-true _ _ e)
    go false e h = let both = and_parts _ _ h in inr (eqb-true _ _ both.0, ltb-true _ _ both.1)

pub before_false : (s t : Spot) → is_before s t ≡ false → NotAfter t s
before_false s t h =
    let parts = or_parts _ _ h in
    let log : t.log ≤ s.log = ltb-false _ _ parts.0 in
    go log (cases_lt t.log s.log) (and_cases _ _ parts.1)
  where
    go : t.log ≤ s.log → (t.log < s.log) ⊎ (s.log ≤ t.log) → ((s.log == t.log) ≡ false) ⊎ (nat_lt s.entry t.entry ≡ false) → NotAfter t s
    go le (inl a) c = inl (inl a)
    go le (inr a) (inl b) = let same : s.log ≡ t.log = omega arith in absurd (eqb-false _ _ b same)
    go le (inr a) (inr b) =
        let entry : t.entry ≤ s.entry = ltb-false _ _ b in
        at entry (cases_lt t.entry s.entry)
      where
        same : t.log ≡ s.log
        same = omega arith

        at : t.entry ≤ s.entry → (t.entry < s.entry) ⊎ (s.entry ≤ t.entry) → NotAfter t s
        at le (inl x) = inl (inr (same, x))
        at le (inr x) = inr (spot_from t s same (omega arith))

pub before_trans : (s t u : Spot) → SpotBefore s t → SpotBefore t u → SpotBefore s u
before_trans s t u (inl a) (inl b) = inl (omega arith)
before_trans s t u (inl a) (inr b) = let e = b.0 in inl (omega arith)
before_trans s t u (inr a) (inl b) = let e = a.0 in inl (omega arith)
before_trans s t u (inr a) (inr b) = let x = a.1 in let y = b.1 in inr (a.0 ∙ b.0, omega arith)

pub not_after_trans : (s t u : Spot) → NotAfter s t → NotAfter t u → NotAfter s u
not_after_trans s t u (inl a) (inl b) = inl (before_trans s t u a b)
not_after_trans s t u (inl a) (inr b) = inl (subst (SpotBefore s) b a)
not_after_trans s t u (inr a) b = subst (λ (v : Spot). NotAfter v u) (sym a) b

pub Has_last : (front : List Seen) (s x : Seen) → Has (front ++ s ∷ []) x → Has front x ⊎ (s ≡ x)
Has_last front s x m = go (Has_append front (s ∷ []) x m)
  where
    go : Has front x ⊎ Has (s ∷ []) x → Has front x ⊎ (s ≡ x)
    go (inl a) = inl a
    go (inr (inl a)) = inr a
    go (inr (inr a)) = absurd a

-- one more is looked at
lower_is : (p : Seen → Bool) (front : List Seen) (best : Option Seen) (s : Seen) (b : Bool) → p s ≡ b → IsLeast p front best → IsLeast p (front ++ s ∷ []) (lower b best s)
lower_is p front None s false e h = λ x m k. go x (Has_last front s x m) k
  where
    go : (x : Seen) → Has front x ⊎ (s ≡ x) → p x ≡ true → ⊥
    go x (inl a) k = h x a k
    go x (inr a) k = false≢true (sym e ∙ ap p a ∙ k)
lower_is p front None s true e h = (Has_back front (s ∷ []) s (inl refl), e, λ x m k. go x (Has_last front s x m) k)
  where
    go : (x : Seen) → Has front x ⊎ (s ≡ x) → p x ≡ true → NotAfter s.spot x.spot
    go x (inl a) k = absurd (h x a k)
    go x (inr a) k = inr (ap (λ (y : Seen). y.spot) a)
lower_is p front (Some m) s false e h = (Has_front front (s ∷ []) m h.0, h.1, λ x n k. go x (Has_last front s x n) k)
  where
    go : (x : Seen) → Has front x ⊎ (s ≡ x) → p x ≡ true → NotAfter m.spot x.spot
    go x (inl a) k = h.2 x a k
    go x (inr a) k = absurd (false≢true (sym e ∙ ap p a ∙ k))
lower_is p front (Some m) s true e h = by (is_before s.spot m.spot) refl
  where
    new : is_before s.spot m.spot ≡ true → (x : Seen) → Has front x ⊎ (s ≡ x) → p x ≡ true → NotAfter s.spot x.spot
    new w x (inl a) k = not_after_trans s.spot m.spot x.spot (inl (before_true s.spot m.spot w)) (h.2 x a k)
    new w x (inr a) k = inr (ap (λ (y : Seen). y.spot) a)

    old : is_before s.spot m.spot ≡ false → (x : Seen) → Has front x ⊎ (s ≡ x) → p x ≡ true → NotAfter m.spot x.spot
    old w x (inl a) k = h.2 x a k
    old w x (inr a) k = subst (λ (y : Seen). NotAfter m.spot y.spot) a (before_false s.spot m.spot w)

    by : (b : Bool) → is_before s.spot m.spot ≡ b → IsLeast p (front ++ s ∷ []) (lower true (Some m) s)
    by true w = rw w (Has_back front (s ∷ []) s (inl refl), e, λ x n k. new w x (Has_last front s x n) k)
    by false w = rw w (Has_front front (s ∷ []) m h.0, h.1, λ x n k. old w x (Has_last front s x n) k)

least_from_is : (p : Seen → Bool) (front ss : List Seen) (best : Option Seen) → IsLeast p front best → IsLeast p (front ++ ss) (least_from p best ss)
least_from_is p front [] best h = subst (λ (xs : List Seen). IsLeast p xs best) (sym (append-nil front)) h
least_from_is p front (s ∷ ss) best h =
    subst (λ (xs : List Seen). IsLeast p xs (least_from p (lower (p s) best s) ss)) (append_assoc front (s ∷ []) ss)
    (least_from_is p (front ++ s ∷ []) ss (lower (p s) best s) (lower_is p front best s (p s) refl h))

-- the one that is found is the least
pub least_is : (p : Seen → Bool) (ss : List Seen) (best : Option Seen) → least_from p None ss ≡ best → IsLeast p ss best
least_is p ss best e = subst (IsLeast p ss) e (least_from_is p [] ss None (λ x m k. m))
