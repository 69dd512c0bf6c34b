-- Lists: an item at a place, and lists that are written over whole.
use Rattle.std.proofs.Common.{◌≡◌, ℕ, zero, suc, sym, ap, subst, ◌∙◌, List, [], ◌∷◌, ◌++◌, length}
use Rattle.std.specs.Prelude.{Some, drop, map, take, slice_get}
use Rattle.std.proofs.Math.Seq.{take-append_seam}
use Rattle.plain_lemmas.proofs.Each.{each_kept, each_map}
use Rattle.definitions.specs.Lists.{EachIs}

-- what is so of each item is so of the one at a place
pub each_at : {X : Type 0} (P : X → Type 0) (xs : List X) (k : ℕ) (x : X) → EachIs P xs → slice_get xs k ≡ Some x → P x
each_at P [] k x e g = absurd (cc)
each_at P (y ∷ ys) zero x e g = subst P (let q : y ≡ x = cc in q) e.0
each_at P (y ∷ ys) (suc k) x e g = each_at P ys k x e.1 g

-- it is so of each that is changed, where a change leaves it so
pub each_mapped : {X : Type 0} (P : X → Type 0) (f : X → X) → ((x : X) → P x → P (f x)) → (xs : List X) → EachIs P xs → EachIs P (map f xs)
each_mapped P f k xs e = (each_map P f xs).1 (each_kept P (λ x. P (f x)) xs k e)

-- as many items are written over all those of a list
pub whole_written : {X : Type 0} (xs ms : List X) (n : ℕ) → length ms ≡ length xs → n ≡ length xs → take n (ms ++ drop (length ms) xs) ≡ ms
whole_written xs ms n e f =
    ap (λ (k : ℕ). take k (ms ++ drop (length ms) xs)) (f ∙ sym e) ∙ take-append_seam ms (drop (length ms) xs)
