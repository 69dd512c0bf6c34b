-- Spotted: spots in no log above a bound.
use Rattle.std.proofs.Common.{List, [], ap, arith, false, inl, inr, refl, ℕ, ◌++◌, ◌∷◌, ◌<◌, ◌≡◌, ◌≤◌, ◌⊎◌, ◌∙◌}
use Rattle.std.specs.Prelude.{◌==◌, ◌||◌}
use Rattle.std.specs.List.{list_any}
use Rattle.std.proofs.lemmas.Bool.{eqb-true, false_from_ne_true}
use Rattle.definitions.specs.declared.findings.Spot.{Spot}
use Rattle.definition_laws.specs.Members.{Has}
use Rattle.frame_index.specs.Spots.{AreUpTo}
use Rattle.frame_index.proofs.Growing.{last_has}

-- none is in a log above it
pub none_above : (spots : List Spot) (top log : ℕ) → AreUpTo top spots → top < log → list_any (λ x. x.log == log) spots ≡ false
none_above [] top log up lt = refl
none_above (s ∷ spots) top log up lt =
    let le : s.log ≤ top = up s (inl refl) in
    let other : (s.log == log) ≡ false = false_from_ne_true (s.log == log) (λ t. let e = eqb-true s.log log t in omega arith) in
    ap (λ b. b || list_any (λ x. x.log == log) spots) other ∙ none_above spots top log (λ x m. up x (inr m)) lt

-- with one more, the bound of which is a bound of the others too
pub up_to_more : (spots : List Spot) (s : Spot) (top more : ℕ) → top ≤ more → s.log ≤ more → AreUpTo top spots → AreUpTo more (spots ++ s ∷ [])
up_to_more spots s top more le here up x m = go (last_has spots s x m)
  where
    go : Has spots x ⊎ (s ≡ x) → x.log ≤ more
    go (inl h) = let f = up x h in omega arith
    go (inr e) = let f = ap (λ (y : Spot). y.log) e in omega arith
