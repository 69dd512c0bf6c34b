-- Opened: what accuses, read from its files one after the other, or how a run ends where nothing
-- does. A file that isn't there counts as one without bytes here; reading it is a fault of the
-- shelf, which is answered where the file is read.
use Rattle.std.specs.Prelude.{◌≡◌, ℕ, zero, suc, List, Option, Some, None, Result, Ok, Err}
use Rattle.definitions.specs.World.{Game}
use Rattle.line_io.specs.Files.{Contents, behind_first, content}
use Rattle.run_frame.specs.Sessions.{session_in}
use Rattle.run_frame.specs.declared.statuses.Status.{Status}
use Rattle.run_frame.specs.declared.statuses.Status.TheVariants.{BadSeal}
use Rattle.file_commands.specs.SealedCases.{roots_in}
use Rattle.accuser.specs.Accused.{first_fault}
use Rattle.accuser.specs.Opened.{bytes_of}

-- what accuses: a session, the roots of its players, and the bytes of files of sealed frames
pub record Accusation : Type 0 where
  pub game : Game
  pub roots : List (List ℕ)
  pub files : List (List ℕ)

-- the three, unless one of the files has this fault
abbrev pub unless_bad : Game → List (List ℕ) → List (List ℕ) → Option (ℕ × ℕ) → Result Accusation Status
unless_bad game roots files None = Ok (record { game = game; roots = roots; files = files })
unless_bad game roots files (Some bad) = Err (BadSeal bad.0 bad.1)

-- the same, by the files' first fault
abbrev pub with_files : Game → List (List ℕ) → List (List ℕ) → Result Accusation Status
with_files game roots files = unless_bad game roots files (first_fault game roots 0 files)

-- the same, where there are roots
abbrev pub after_roots : Game → Result (List (List ℕ)) Status → List (List ℕ) → Result Accusation Status
after_roots game (Err status) files = Err status
after_roots game (Ok roots) files = with_files game roots files

-- the same, by the roots' file, which is the first of these, and by so many after it
abbrev pub roots_then : Game → Contents → (many : ℕ) → Result Accusation Status
roots_then game contents many =
    after_roots game (roots_in game (content contents 0)) (bytes_of (behind_first contents) many)

-- the same, where there is a session
abbrev pub after_session : Result Game Status → Contents → (many : ℕ) → Result Accusation Status
after_session (Err status) contents many = Err status
after_session (Ok game) contents many = roots_then game contents many

-- what accuses, by the files: the session is asked first, then the roots, and then so many files
-- of sealed frames
abbrev pub accusation_for : Contents → (many : ℕ) → Result Accusation Status
accusation_for contents many = after_session (session_in (content contents 0)) (behind_first contents) many

-- ---- when a file is read: only where those before it have what is asked of them

-- of sealed frames: where those before it are sealed frames throughout
abbrev pub MayReadSealed : Game → List (List ℕ) → Contents → ℕ → Type 0
MayReadSealed game roots contents n = first_fault game roots 0 (bytes_of contents n) ≡ None

-- after the session's: that of the roots, and then those of sealed frames
abbrev pub MayReadRoots : Game → Contents → ℕ → Type 0
MayReadRoots game contents zero = Unit {0}
MayReadRoots game contents (suc n) =
    (roots : List (List ℕ)) × (roots_in game (content contents 0) ≡ Ok roots) × MayReadSealed game roots (behind_first contents) n

abbrev pub MayReadEach : Contents → ℕ → Type 0
MayReadEach contents zero = Unit {0}
MayReadEach contents (suc n) =
    (game : Game) × (session_in (content contents 0) ≡ Ok game) × MayReadRoots game (behind_first contents) n
