-- Unused: the places at which nothing was sealed yet.
use Rattle.std.specs.Prelude.{◌≡◌, ℕ, ◌≤◌, List, Option, None}
use Rattle.definitions.specs.Lists.{item_or}

-- nothing was sealed from this place on
abbrev pub IsUnusedFrom : List (Option (List ℕ)) → ℕ → Type 0
IsUnusedFrom sealed place = (k : ℕ) → place ≤ k → item_or sealed k None ≡ None
