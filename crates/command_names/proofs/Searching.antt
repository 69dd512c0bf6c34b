-- Searching: what isn't at a place is searched for after it.
use Rattle.std.proofs.Common.{◌≡◌, ℕ, zero, suc, ◌+◌, ◌<◌, Bool, false, List, [], ◌∷◌, length, drop, slice_index_or, refl, sym, ap, ◌∙◌, add-one, arith}
use Rattle.std.specs.List.{find}

pub found_after : {A : Type 0} (p : A → Bool) (xs : List A) (i : ℕ) (d : A) → i < length xs → p (slice_index_or xs i d) ≡ false →
    find p (drop (i + 1) xs) ≡ find p (drop i xs)
found_after p [] i d lt h = absurd (omega arith)
found_after p (x ∷ xs) zero d lt h = rw h refl
found_after {A} p (x ∷ xs) (suc i) d lt h =
    let next : suc i + 1 ≡ suc (i + 1) = omega arith in
    ap (λ (n : ℕ). find p (drop n (x ∷ xs))) next ∙ found_after p xs i d (omega arith) h
