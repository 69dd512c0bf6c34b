-- Fronts: lists that are dropped from.
use Rattle.std.proofs.Common.{◌≡◌, ℕ, zero, suc, ◌≤◌, List, [], ◌∷◌, refl, ◌∙◌, length, arith}
use Rattle.std.proofs.Math.Dec.{eqb, eqb-suc-suc, eqb-zero-suc}
use Rattle.std.specs.Prelude.{drop, take}
use Rattle.definitions.specs.Lists.{is_empty}

-- nothing is left exactly where the front is all
pub empty_behind : {X : Type 0} (from to : ℕ) (xs : List X) → from ≤ to → to ≤ length xs → eqb from to ≡ is_empty (drop from (take to xs))
empty_behind zero zero xs f t = refl
empty_behind zero (suc to) [] f t = absurd (omega (arith, t))
empty_behind zero (suc to) (x ∷ xs) f t = eqb-zero-suc to
empty_behind (suc from) zero xs f t = absurd (omega (arith, f))
empty_behind (suc from) (suc to) [] f t = absurd (omega (arith, t))
empty_behind (suc from) (suc to) (x ∷ xs) f t = eqb-suc-suc from to ∙ empty_behind from to xs (omega (arith, f)) (omega (arith, t))
