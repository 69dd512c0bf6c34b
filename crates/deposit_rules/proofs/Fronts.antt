-- Fronts: bytes that are the first ones of those due.
use Rattle.std.proofs.Common.{◌≡◌, ℕ, true, ap, subst, ◌∙◌, List, [], ◌∷◌, ◌++◌, length}
use Rattle.std.specs.Prelude.{drop, nat_lt, take}
use Rattle.std.proofs.lemmas.Bool.{and_parts, false≢true}
use Rattle.std.proofs.lemmas.List.{take-append-drop}
use Rattle.std.proofs.lemmas.Slice.Eq.{bytes_eq-Decides}
use Rattle.loop_rules.specs.Rules.{is_front}

-- what follows them are the rest
pub front_is : (bytes all : List ℕ) → is_front bytes all ≡ true → bytes ++ drop (length bytes) all ≡ all
front_is bytes all e =
    let same : bytes ≡ take (length bytes) all = (bytes_eq-Decides bytes (take (length bytes) all)).0 (and_parts _ _ e).1 in
    ap (λ (x : List ℕ). x ++ drop (length bytes) all) same ∙ take-append-drop (length bytes) all

-- where nothing is due, none are
pub front_none : (bytes all : List ℕ) → all ≡ [] → is_front bytes all ≡ true → ⊥
front_none bytes all n e = go bytes (subst (λ (x : List ℕ). bytes ++ drop (length bytes) x ≡ x) n (front_is bytes all e)) (and_parts _ _ e).0
  where
    go : (bs : List ℕ) → bs ++ drop (length bs) [] ≡ [] → nat_lt 0 (length bs) ≡ true → ⊥
    go [] h k = false≢true k
    go (b ∷ bs) h k = cc
