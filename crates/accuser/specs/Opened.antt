-- Opened: files of sealed frames that are read from a shelf, and what is answered of them.
use Rattle.std.specs.Prelude.{◌≡◌, ◌⊎◌, ◌<◌, ◌≤◌, ℕ, zero, suc, ◌+◌, Bool, true, false, List, [], ◌∷◌, Option, None, Some, Result, Ok, Err, length}
use Rattle.definitions.specs.declared.limits.TheConstants.{LOG_FRONT, LONGEST_LOG}
use Rattle.definitions.specs.Lists.{EachIs, item_or}
use Rattle.definitions.specs.World.{Game}
use Rattle.station.specs.Outside.{faults_behind}
use Rattle.station.specs.Pieces.{AllGive}
use Rattle.station.specs.Shelves.{ShelfState}
use Rattle.station.specs.Since.{since}
use Rattle.line_io.specs.Files.{AreContents, Calls, Contents, ReadsFiles, behind_first}
use Rattle.line_io.specs.Fronts.{Fetched, IsCall, bytes_read}
use Rattle.log_files.specs.Several.{first_bytes}
use Rattle.log_files.specs.Taken.{IsThere}
use Rattle.sealed_files.specs.SealedFrames.{first_bad, sealed_in}
use Rattle.accuser.specs.declared.taker.Taker.{Taker}
use Rattle.accuser.specs.declared.taker.FrontFault.{FrontFault}
use Rattle.accuser.specs.declared.taker.FrontFault.TheVariants as front
use Rattle.accuser.specs.declared.pieces.FileFault.{FileFault}
use Rattle.accuser.specs.declared.pieces.FileFault.TheVariants as stop
use Rattle.accuser.specs.declared.opened.FilesFault.{FilesFault}
use Rattle.accuser.specs.declared.opened.FilesFault.TheVariants.{BadSeal, Failed, Memory}
use Rattle.accuser.specs.Accused.{Accuses, first_fault}
use Rattle.accuser.specs.Feeds.{Feeding, FeedsOn}
use Rattle.accuser.specs.SealedReports.{SealedReported}
use Rattle.accuser.specs.Taking.{AreTaken, Leaves, TakesSealed}

-- ---- one file

-- why a file wasn't taken whole, where its bytes weren't
abbrev pub of_front : FrontFault → FileFault
of_front (front.Stuck at) = stop.Bad at
of_front front.Memory = stop.Memory

-- One call for the file of this name, at this place: it gave bytes, at least one, which were taken;
-- the file has ended; with these bytes it is too long; the call failed; or memory was wanting. No
-- further than a byte past the longest file is asked for.
abbrev pub IsPiece : Game → List (List ℕ) → (before now : ShelfState) → (name : List ℕ) → (t t' : Taker) → (file : ℕ) → (f f' : Feeding) → (at : ℕ) → Result (Option ℕ) FileFault → Type 0
IsPiece game roots before now name t t' file f f' at (Ok (Some count)) =
    (bytes : List ℕ) × IsCall before now name at (Some bytes) × (0 < count) × (count ≡ length bytes) × (at + count ≤ LONGEST_LOG) × FeedsOn game roots t t' file f f' bytes
IsPiece game roots before now name t t' file f f' at (Ok None) = IsCall before now name at (Some []) × (t' ≡ t) × (f' ≡ f)
IsPiece game roots before now name t t' file f f' at (Err (stop.Bad place)) =
    (bytes : List ℕ) × IsCall before now name at (Some bytes) × (LONGEST_LOG < at + length bytes) × (at + length bytes ≤ LOG_FRONT) × (place ≡ LONGEST_LOG)
IsPiece game roots before now name t t' file f f' at (Err stop.Failed) = IsCall before now name at None
IsPiece game roots before now name t t' file f f' at (Err stop.Memory) = (bytes : List ℕ) × IsCall before now name at (Some bytes) × (at + length bytes ≤ LONGEST_LOG)

-- the file is sealed frames throughout and not too long, and these were taken
pub record IsFileTaken (game : Game) (roots : List (List ℕ)) (t t' : Taker) (file : ℕ) (bytes : List ℕ) : Type 0 where
  pub sound : first_bad game roots bytes ≡ None
  pub taken : TakesSealed t t' file (sealed_in game roots bytes)

-- This was answered of a file with this content: all of it was taken; this is its first fault; or
-- reading it stopped before.
abbrev pub IsAnswer : Game → List (List ℕ) → (t t' : Taker) → (file : ℕ) → Option (List ℕ) → Result (Unit {0}) FileFault → Type 0
IsAnswer game roots t t' file content (Ok whole) = IsThere content (IsFileTaken game roots t t' file)
IsAnswer game roots t t' file content (Err (stop.Bad at)) = IsThere content (λ bytes. first_bad game roots bytes ≡ Some at)
IsAnswer game roots t t' file content (Err stop.Failed) = Unit {0}
IsAnswer game roots t t' file content (Err stop.Memory) = Unit {0}

-- whether the shelf failed
abbrev pub is_failed : Result (Unit {0}) FileFault → Bool
is_failed (Ok whole) = false
is_failed (Err (stop.Bad at)) = false
is_failed (Err stop.Failed) = true
is_failed (Err stop.Memory) = false

-- The file of this name was read from its front on, and no further than a byte past the longest. A
-- fault is counted exactly where it is answered. The answer is that of any content that gives what
-- the shelf answered.
pub record TakesFile (game : Game) (roots : List (List ℕ)) (before now : ShelfState) (name : List ℕ) (t t' : Taker) (file : ℕ) (r : Result (Unit {0}) FileFault) : Type 0 where
  pub fetched : Fetched before now name (is_failed r)
  pub short : length (bytes_read (since before.pieces now.pieces)) ≤ LOG_FRONT
  pub answer : (content : Option (List ℕ)) → AllGive content (since before.pieces now.pieces) → IsAnswer game roots t t' file content r
  pub leaves : Leaves game t t' file

-- ---- several files

-- the bytes of so many files
abbrev pub bytes_of : Contents → (many : ℕ) → List (List ℕ)
bytes_of files zero = []
bytes_of files (suc many) = first_bytes files ∷ bytes_of (behind_first files) many

-- whether the shelf failed
abbrev pub is_shelf_failed : {T : Type 0} → Result T FilesFault → Bool
is_shelf_failed (Ok x) = false
is_shelf_failed (Err (BadSeal file at)) = false
is_shelf_failed (Err Failed) = true
is_shelf_failed (Err Memory) = false

-- the answer where the file of this number wasn't taken whole
abbrev pub stopped_by : ℕ → FileFault → FilesFault
stopped_by number (stop.Bad at) = BadSeal number at
stopped_by number stop.Failed = Failed
stopped_by number stop.Memory = Memory

-- why files with these contents weren't all taken; want of memory and faults have their causes outside
abbrev pub IsFilesFault : Game → List (List ℕ) → (number : ℕ) → List (List ℕ) → FilesFault → Type 0
IsFilesFault game roots number files (BadSeal file at) = first_fault game roots number files ≡ Some (file, at)
IsFilesFault game roots number files Failed = Unit {0}
IsFilesFault game roots number files Memory = Unit {0}

-- This was answered of files with these bytes: they were taken, or this is why not.
abbrev pub AreAnswered : Game → List (List ℕ) → (t t' : Taker) → (number : ℕ) → List (List ℕ) → Result (Unit {0}) FilesFault → Type 0
AreAnswered game roots t t' number files (Ok all) = AreTaken game roots t t' number files
AreAnswered game roots t t' number files (Err fault) = IsFilesFault game roots number files fault

-- Files of these names were read, the first as that of this number, each no further than a byte past
-- the longest, and none after one that has a fault. P is so of the bytes of any contents that give
-- what the shelf answered.
pub record ReadsSealed (game : Game) (roots : List (List ℕ)) (before now : ShelfState) (names : List (List ℕ)) (number : ℕ) (failed : Bool) (P : List (List ℕ) → Type 0) : Type 0 where
  pub calls : Calls
  pub reads : ReadsFiles names before now calls
  pub short : EachIs (λ pieces. length (bytes_read pieces) ≤ LOG_FRONT) calls
  pub counted : now.faults ≡ faults_behind failed before.faults
  pub due : (files : Contents) → AreContents files calls → (i : ℕ) → (item_or calls i [] ≡ []) ⊎ (first_fault game roots number (bytes_of files i) ≡ None)
  pub answer : (files : Contents) → AreContents files calls → P (bytes_of files (length names))

-- the answer to the accusation by files with these bytes
abbrev pub IsAccusation : Game → List (List ℕ) → List (List ℕ) → Result SealedReported FilesFault → Type 0
IsAccusation game roots files (Ok r) = Accuses game roots files r
IsAccusation game roots files (Err fault) = IsFilesFault game roots 0 files fault
