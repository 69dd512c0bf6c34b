-- What was read of a file, from its front on.
use Rattle.std.specs.Prelude.{◌≡◌, ℕ, ◌+◌, ◌≤◌, Bool, true, false, Result, Ok, Err, IfOk, Option, Some, None, List, [], ◌∷◌, ◌++◌, ◌<◌, length, take}
use Rattle.station.specs.Outside.{faults_behind}
use Rattle.station.specs.Pieces.{Piece, AllGive}
use Rattle.station.specs.Shelves.{ShelfState, GivesShown, after_piece}
use Rattle.station.specs.Since.{since, Grows}
use Rattle.line_io.specs.declared.fronts.FrontFault.{FrontFault}
use Rattle.line_io.specs.declared.fronts.FrontFault.TheVariants.{NoMemory, Failed}

-- the bytes that a call gave
abbrev pub bytes_given : Option (List ℕ) → List ℕ
bytes_given None = []
bytes_given (Some bytes) = bytes

-- These calls read the file of this name from this place on, each from where the one before ended, and none behind one that gave
-- no bytes.
abbrev pub IsReading : (name : List ℕ) → (at : ℕ) → List Piece → Type 0
IsReading name at [] = Unit {0}
IsReading name at (piece ∷ pieces) =
    (piece.name ≡ name) × (piece.at ≡ at) × (bytes_given piece.gave ≡ [] → pieces ≡ []) × IsReading name (at + length (bytes_given piece.gave)) pieces

-- the bytes that these calls gave, one behind the other
abbrev pub bytes_read : List Piece → List ℕ
bytes_read [] = []
bytes_read (piece ∷ pieces) = bytes_given piece.gave ++ bytes_read pieces

-- The file of this name gives what these calls answered, where the shelf shows its files.
abbrev pub AllShown : Option (List ℕ → Option (List ℕ)) → (name : List ℕ) → List Piece → Type 0
AllShown (Some files) name pieces = AllGive (files name) pieces
AllShown None name pieces = Unit {0}

-- A shelf was asked for the file of this name from its front on: it has the files that it had, its answers are theirs where it shows
-- them, and it counts a fault more exactly where it failed.
pub record Fetched (before now : ShelfState) (name : List ℕ) (failed : Bool) : Type 0 where
  pub same : now.files ≡ before.files
  pub grows : Grows before.pieces now.pieces
  pub reading : IsReading name 0 (since before.pieces now.pieces)
  pub shown : AllShown before.files name (since before.pieces now.pieces)
  pub counted : now.faults ≡ faults_behind failed before.faults

-- One call for the file of this name, at this place, gave this.
pub record IsCall (before now : ShelfState) (name : List ℕ) (place : ℕ) (given : Option (List ℕ)) : Type 0 where
  pub after : now ≡ after_piece before (record { name = name; at = place; gave = given })
  pub shown : GivesShown before.files name place given

-- One call for the file of this name, where the text ends: so many bytes came, which stand after the
-- text; or why not. None came exactly where the file has ended.
abbrev pub TakesPiece : (before now : ShelfState) → (name text text' : List ℕ) → (room : ℕ) → Result ℕ FrontFault → Type 0
TakesPiece before now name text text' room (Ok count) =
    (bytes : List ℕ) × IsCall before now name (length text) (Some bytes) × (length bytes ≡ count) × (count ≤ room) × (text' ≡ text ++ bytes)
TakesPiece before now name text text' room (Err NoMemory) = (bytes : List ℕ) × IsCall before now name (length text) (Some bytes)
TakesPiece before now name text text' room (Err Failed) = IsCall before now name (length text) None

-- The file is there, and the text is its first bytes up to the limit.
abbrev pub IsFrontOf : ℕ → Option (List ℕ) → List ℕ → Type 0
IsFrontOf limit (Some content) text = text ≡ take limit content
IsFrontOf limit None text = ⊥

-- what was read, by its bytes
abbrev pub front_bytes : {T : Type 0} → (T → List ℕ) → Result T FrontFault → Result (List ℕ) FrontFault
front_bytes bytes (Ok text) = Ok (bytes text)
front_bytes bytes (Err fault) = Err fault

-- whether the shelf failed
abbrev pub is_front_failed : {T : Type 0} → Result T FrontFault → Bool
is_front_failed (Ok text) = false
is_front_failed (Err NoMemory) = false
is_front_failed (Err Failed) = true

-- The front of a file was read: it is that of any content that gives what the shelf answered.
pub record ReadsFront (before now : ShelfState) (name : List ℕ) (limit : ℕ) (front : Result (List ℕ) FrontFault) : Type 0 where
  pub fetched : Fetched before now name (is_front_failed front)
  pub front_is : (content : Option (List ℕ)) → AllGive content (since before.pieces now.pieces) → IfOk front (λ text. IsFrontOf limit content text)
  pub short : IfOk front (λ text. length text ≤ limit)
