-- Files: what is read of several files, one behind the other.
use Rattle.std.specs.Prelude.{◌≡◌, ℕ, Option, Some, None, List, [], ◌∷◌, ◌++◌, flat_map}
use Rattle.station.specs.Pieces.{Piece, AllGive}
use Rattle.station.specs.Shelves.{ShelfState}
use Rattle.definitions.specs.Lists.{item_or}
use Rattle.line_io.specs.Fronts.{AllShown, IsReading}

-- the calls for each of some files, in their order, as they were answered
abbrev pub Calls : Type 0
Calls = List (List Piece)

-- what each of these files holds when it is read, in the same order, and none where it isn't there
abbrev pub Contents : Type 0
Contents = List (Option (List ℕ))

-- what the file of this number holds, counted from 0; past the last one, nothing
abbrev pub content : Contents → ℕ → Option (List ℕ)
content contents n = item_or contents n None

-- what the files after the first hold
abbrev pub behind_first : Contents → Contents
behind_first [] = []
behind_first (content ∷ contents) = contents

-- all calls, one behind the other
abbrev pub in_turn : Calls → List Piece
in_turn calls = flat_map (λ pieces. pieces) calls

-- Files with these contents give what was answered.
abbrev pub AreContents : Contents → Calls → Type 0
AreContents contents calls = (n : ℕ) → AllGive (content contents n) (item_or calls n [])

-- Each file of these names was read by its calls, from its front on and no further behind its end or a fault; where the shelf shows its
-- files, what they give was answered.
abbrev pub AreReadings : (files : Option (List ℕ → Option (List ℕ))) → (names : List (List ℕ)) → Calls → Type 0
AreReadings files [] calls = calls ≡ []
AreReadings files (name ∷ names) [] = ⊥
AreReadings files (name ∷ names) (pieces ∷ calls) = IsReading name 0 pieces × AllShown files name pieces × AreReadings files names calls

-- The files of these names were read by these calls and no others, one file behind the other.
pub record ReadsFiles (names : List (List ℕ)) (before after : ShelfState) (calls : Calls) : Type 0 where
  -- the shelf has the files that it had
  pub same : after.files ≡ before.files
  -- these calls were answered
  pub answered : after.pieces ≡ before.pieces ++ in_turn calls
  -- each file is read on
  pub readings : AreReadings before.files names calls
