-- Lists: words that the other definitions share.
use Rattle.std.specs.Prelude.{ℕ, zero, suc, Bool, true, false, List, [], ◌∷◌, Option, None}
use Rattle.std.specs.Option.{option_or}

-- an empty list
abbrev pub is_empty : {X : Type 0} → List X → Bool
is_empty [] = true
is_empty (x ∷ xs) = false

-- the item at this place, or the other one past the end
abbrev pub item_or : {X : Type 0} → List X → ℕ → X → X
item_or [] n d = d
item_or (x ∷ xs) zero d = x
item_or (x ∷ xs) (suc n) d = item_or xs n d

-- the first that the function gives of these
abbrev pub first_of : {X Y : Type 0} → (X → Option Y) → List X → Option Y
first_of f [] = None
first_of f (x ∷ xs) = option_or (f x) (first_of f xs)

-- the fact holds of each of these
abbrev pub EachIs : {X : Type 0} → (X → Type 0) → List X → Type 0
EachIs P [] = Unit {0}
EachIs P (x ∷ xs) = P x × EachIs P xs
