-- What a shelf is seen as, and what its calls make of it.
use Rattle.std.specs.Prelude.{ℕ, Option, Some, None, List, [], ◌∷◌, ◌++◌}
use Rattle.station.specs.Outside.{one_more}
use Rattle.station.specs.Pieces.{Piece, GivesAt}

-- a shelf, by what its calls answered so far
pub record ShelfState : Type 0 where
  -- the content of each file by its name, and none where there is no such file; where the object shows it
  pub files : Option (List ℕ → Option (List ℕ))
  -- what its calls answered
  pub pieces : List Piece
  -- how many of its calls failed, at most 2^64 - 1
  pub faults : ℕ

-- the count of faults after a call that gave this
abbrev pub faults_after : Option (List ℕ) → ℕ → ℕ
faults_after (Some bytes) n = n
faults_after None n = one_more n

-- the shelf after a call
abbrev pub after_piece : ShelfState → Piece → ShelfState
after_piece s piece = record { files = s.files; pieces = s.pieces ++ piece ∷ []; faults = faults_after piece.gave s.faults }

-- The files give this for the name at that place, where they are shown.
abbrev pub GivesShown : Option (List ℕ → Option (List ℕ)) → (name : List ℕ) → (at : ℕ) → Option (List ℕ) → Type 0
GivesShown (Some files) name at gave = GivesAt (files name) at gave
GivesShown None name at gave = Unit {0}
