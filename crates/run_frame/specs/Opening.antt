-- Opening: files that are read one behind the other, and what is due by what they hold.
use Rattle.std.specs.Prelude.{◌≡◌, ◌⊎◌, ℕ, Bool, List, [], Option, Result, Ok, Err, take, unwrap_or}
use Rattle.definitions.specs.Lists.{item_or}
use Rattle.station.specs.Outside.{faults_behind}
use Rattle.station.specs.Pieces.{AllGive}
use Rattle.station.specs.Shelves.{ShelfState}
use Rattle.station.specs.Since.{since}
use Rattle.line_io.specs.Files.{AreContents, Calls, Contents, ReadsFiles}
use Rattle.line_io.specs.Fronts.{Fetched}
use Rattle.run_frame.specs.declared.statuses.Status.{Status}
use Rattle.run_frame.specs.declared.statuses.Status.TheVariants.{BadLine, BadLog, BadSeal, BadSession, InputFault, NoMemory, Usage}

-- the first bytes of a file, at most so many; one that isn't there counts as one without bytes here
unfoldable pub front_in : (most : ℕ) → Option (List ℕ) → List ℕ
front_in most content = take most (unwrap_or content [])

-- The file of this name was read, and P is so of any content that gives what was answered.
pub record Opens (before after : ShelfState) (name : List ℕ) (failed : Bool) (P : Option (List ℕ) → Type 0) : Type 0 where
  pub fetched : Fetched before after name failed
  pub due : (content : Option (List ℕ)) → AllGive content (since before.pieces after.pieces) → P content

-- The files of these names were read in their order, each only where R says so of those before it, and P is so of any contents that give what
-- was answered.
pub record Reads (before after : ShelfState) (names : List (List ℕ)) (failed : Bool) (R : Contents → ℕ → Type 0) (P : Contents → Type 0) : Type 0 where
  pub calls : Calls
  pub reads : ReadsFiles names before after calls
  pub counted : after.faults ≡ faults_behind failed before.faults
  pub ready : (contents : Contents) → AreContents contents calls → (k : ℕ) → (item_or calls k [] ≡ []) ⊎ R contents k
  pub due : (contents : Contents) → AreContents contents calls → P contents

-- there is one
abbrev pub Found : {T : Type 0} → Result T Status → Type 0
Found {T} due = (x : T) × (due ≡ Ok x)

-- There is none, for the reason that is due, unless memory was wanting or the shelf failed.
abbrev pub IsRefusedBy : {T : Type 0} → Result T Status → Status → Type 0
IsRefusedBy due NoMemory = Unit {0}
IsRefusedBy due InputFault = Unit {0}
IsRefusedBy due Usage = due ≡ Err Usage
IsRefusedBy due (BadSession line what) = due ≡ Err (BadSession line what)
IsRefusedBy due (BadLine text line) = due ≡ Err (BadLine text line)
IsRefusedBy due (BadLog log at why) = due ≡ Err (BadLog log at why)
IsRefusedBy due (BadSeal file at) = due ≡ Err (BadSeal file at)
IsRefusedBy due status = ⊥

-- What is read is what is due, unless memory was wanting or the shelf failed.
abbrev pub IsDueFor : {T : Type 0} → Result T Status → Result T Status → Type 0
IsDueFor due (Ok x) = due ≡ Ok x
IsDueFor due (Err status) = IsRefusedBy due status
