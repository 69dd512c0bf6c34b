-- Ranged: what is put behind the others, turn by turn or log by log.
use Rattle.std.proofs.Common.{List, None, Some, [], ap, refl, sym, zero-add, ℕ, ◌++◌, ◌+◌, ◌∙◌, ◌∷◌, ◌≡◌, Option, append_assoc}
use Rattle.std.specs.Prelude.{filter_map, flat_map, map, option_to_list}
use Rattle.std.specs.List.{cons_option, range_with_len}
use Rattle.std.proofs.lemmas.List.{map-append}
use Rattle.std.proofs.lemmas.List.Elements.{filter_map-append}
use Rattle.plain_lemmas.proofs.Lists.{flat_more, range_more}

-- with what belongs to one turn more
pub shown_more : {X : Type 0} (f : ℕ → List X) (n : ℕ) (out a b : List X) → a ≡ out ++ flat_map f (range_with_len 0 n) → b ≡ a ++ f n → b ≡ out ++ flat_map f (range_with_len 0 (n + 1))
shown_more {X} f n out a b e g =
    g ∙ ap (λ (xs : List X). xs ++ f n) e ∙ append_assoc out (flat_map f (range_with_len 0 n)) (f n) ∙ ap (λ (xs : List X). out ++ xs) (sym (flat_more f n))

as_list : {X : Type 0} (o : Option X) → cons_option o [] ≡ option_to_list o
as_list None = refl
as_list (Some x) = refl

-- with what the function gives of one number more, if it gives something
pub picked_more : {X : Type 0} (f : ℕ → Option X) (n : ℕ) → filter_map f (range_with_len 0 (n + 1)) ≡ filter_map f (range_with_len 0 n) ++ option_to_list (f n)
picked_more {X} f n =
    ap (filter_map f) (range_more 0 n) ∙ filter_map-append f (range_with_len 0 n) ((0 + n) ∷ [])
    ∙ ap (λ (k : ℕ). filter_map f (range_with_len 0 n) ++ cons_option (f k) []) (zero-add n) ∙ ap (λ (xs : List X). filter_map f (range_with_len 0 n) ++ xs) (as_list (f n))

-- with what belongs to one number more
pub listed_more : {X : Type 0} (f : ℕ → X) (n : ℕ) → map f (range_with_len 0 (n + 1)) ≡ map f (range_with_len 0 n) ++ f n ∷ []
listed_more {X} f n =
    ap (map f) (range_more 0 n) ∙ map-append f (range_with_len 0 n) ((0 + n) ∷ []) ∙ ap (λ (k : ℕ). map f (range_with_len 0 n) ++ f k ∷ []) (zero-add n)
