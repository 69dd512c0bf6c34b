-- Props: facts over lists that have one proof at most.
use mathlib.Core.HLevel.{⊥_prop}
use Rattle.std.specs.Prelude.{◌≡◌, ℕ, List, [], ◌∷◌}
use Rattle.std.specs.Coded.{×_prop, Unit-prop, →_prop}
use Rattle.definitions.specs.Lists.{EachIs}
use Rattle.loop_rules.specs.Told.{DiffersBy}

pub EachIs-prop : {X : Type 0} (P : X → Type 0) → ((x : X) → IsProp (P x)) → (xs : List X) → IsProp (EachIs P xs)
EachIs-prop P p [] = Unit-prop
EachIs-prop P p (x ∷ xs) = ×_prop (p x) (EachIs-prop P p xs)

pub DiffersBy-prop : {X : Type 0} (key : X → ℕ) (xs : List X) → IsProp (DiffersBy key xs)
DiffersBy-prop key [] = Unit-prop
DiffersBy-prop key (x ∷ xs) = ×_prop (EachIs-prop (λ y. key y ≡ key x → ⊥) (λ y. →_prop ⊥_prop) xs) (DiffersBy-prop key xs)
