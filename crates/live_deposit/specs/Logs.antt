-- Logs: the log that a depositor gives, and what it reads of it.
use Rattle.std.specs.Prelude.{◌≡◌, ℕ, Bool, List, Some, take}
use Rattle.definitions.specs.declared.limits.TheConstants.{LONGEST_LOG}
use Rattle.definitions.specs.Lists.{EachIs}
use Rattle.station.specs.Outside.{faults_behind}
use Rattle.station.specs.Pieces.{AllGive}
use Rattle.station.specs.Shelves.{ShelfState}
use Rattle.station.specs.Since.{since, Grows}
use Rattle.line_io.specs.Fronts.{AllShown}

-- what is sent of a file with this content: no more of it than the longest log has
abbrev pub log_of : (content : List ℕ) → List ℕ
log_of content = take LONGEST_LOG content

-- A shelf was asked for the file of this name, at any places: it has the files that it had, its
-- answers are theirs where it shows them, and it counts a fault more exactly where it failed.
pub record Asks (name : List ℕ) (failed : Bool) (before now : ShelfState) : Type 0 where
  pub same : now.files ≡ before.files
  pub grows : Grows before.pieces now.pieces
  pub named : EachIs (λ piece. piece.name ≡ name) (since before.pieces now.pieces)
  pub shown : AllShown before.files name (since before.pieces now.pieces)
  pub counted : now.faults ≡ faults_behind failed before.faults

-- P of the log of any content that gives what the shelf answered
abbrev pub ForLog : (before now : ShelfState) → (P : List ℕ → Type 0) → Type 0
ForLog before now P = (content : List ℕ) → AllGive (Some content) (since before.pieces now.pieces) → P (log_of content)
