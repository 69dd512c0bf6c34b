-- What the calls of a shelf answered.
use Rattle.std.specs.Prelude.{◌≡◌, ℕ, ◌≤◌, Option, Some, None, List, [], length, take, drop}
use Rattle.std.specs.List.{AllByRecursion}

-- a call for the file of this name at this place, and what it gave: bytes, none at the file's end, and nothing where it failed
pub record Piece : Type 0 where
  pub name : List ℕ
  pub at : ℕ
  pub gave : Option (List ℕ)

-- A file gives this at this place: bytes that stand there, and none exactly behind its end. A file that isn't there gives neither.
-- A failed call shows nothing.
abbrev pub GivesAt : Option (List ℕ) → ℕ → Option (List ℕ) → Type 0
GivesAt (Some content) at (Some bytes) = (bytes ≡ take (length bytes) (drop at content)) × (bytes ≡ [] → length content ≤ at)
GivesAt None at (Some bytes) = ⊥
GivesAt (Some content) at None = Unit {0}
GivesAt None at None = Unit {0}

-- A file with this content gives what these calls for it answered.
abbrev pub AllGive : (content : Option (List ℕ)) → List Piece → Type 0
AllGive content pieces = AllByRecursion (λ piece. GivesAt content piece.at piece.gave) pieces
