-- Fronts: the parts of joined lists.
use Rattle.std.proofs.Common.{◌≡◌, List, [], ◌∷◌, ◌++◌, length, refl, arith}

-- two joined lists whose first parts are as long have the same parts
pub front_same : {A : Type 0} (xs ys xs' ys' : List A) → length xs ≡ length xs' → xs ++ ys ≡ xs' ++ ys' → (xs ≡ xs') × (ys ≡ ys')
front_same [] ys [] ys' l e = (refl, e)
front_same [] ys (x ∷ xs') ys' l e = absurd (omega arith)
front_same (x ∷ xs) ys [] ys' l e = absurd (omega arith)
front_same (x ∷ xs) ys (y ∷ xs') ys' l e =
    let tails : xs ++ ys ≡ xs' ++ ys' = cc in
    let heads : x ≡ y = cc in
    let rest = front_same xs ys xs' ys' (omega arith) tails in
    (let a = rest.0 in cc, rest.1)
