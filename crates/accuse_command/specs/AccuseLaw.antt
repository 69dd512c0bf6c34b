-- AccuseLaw: what is promised of `accuse`: what files of sealed frames show together is printed,
-- with evidence for whoever has the session and the roots.
use Rattle.std.specs.Prelude.{◌≡◌, ◌⊎◌, ℕ, List, [], ◌∷◌, Some, None, Ok, Err, true, length}
use Rattle.definitions.specs.Lists.{item_or}
use Rattle.definitions.specs.World.{Game}
use Rattle.grid_world.specs.declared.fault.SessionFault.TheVariants.{At}
use Rattle.grid_world.specs.Reading.{game_at, session_fault}
use Rattle.line_io.specs.Files.{AreContents, Contents, behind_first, content}
use Rattle.run_frame.specs.Law.{Law, law_without_input}
use Rattle.run_frame.specs.Sessions.{front_of}
use Rattle.run_frame.specs.declared.statuses.Status.{Status}
use Rattle.run_frame.specs.declared.statuses.Status.TheVariants.{BadLine, BadSeal, BadSession}
use Rattle.run_frame.specs.declared.statuses.TextName.TheVariants.{Roots}
use Rattle.file_commands.specs.Audit.{AuditCause}
use Rattle.file_commands.specs.SealedCases.{roots_in}
use Rattle.accuser.specs.Accused.{first_fault}
use Rattle.accuser.specs.Opened.{bytes_of}
use Rattle.accuse_command.specs.Accuse.{accuse_answer, found_by}
use Rattle.accuse_command.specs.AccuseWords.{Accusing}
use Rattle.accuse_command.specs.Opened.{MayReadEach, accusation_for}
use Rattle.accuse_command.specs.Told.{AreAllBytes, TellsAccusation}

-- the bytes of so many files of sealed frames, which come after those of the session and the roots
abbrev pub files_in : Contents → (many : ℕ) → List (List ℕ)
files_in contents many = bytes_of (behind_first (behind_first contents)) many

-- There is a session, and the roots of its players.
pub record HasRoots (contents : Contents) (game : Game) (roots : List (List ℕ)) : Type 0 where
  pub read : game_at (front_of (content contents 0)) ≡ Ok game
  pub rooted : roots_in game (content (behind_first contents) 0) ≡ Ok roots

-- There is a session, and this line of the roots' text is the first at fault.
pub record IsBadRoots (contents : Contents) (line : ℕ) : Type 0 where
  pub game : Game
  pub read : game_at (front_of (content contents 0)) ≡ Ok game
  pub fault_is : roots_in game (content (behind_first contents) 0) ≡ Err (BadLine Roots line)

-- There are roots, and this is the first file that isn't all sealed frames, and its first fault.
pub record IsBadSeal (contents : Contents) (many file at : ℕ) : Type 0 where
  pub game : Game
  pub roots : List (List ℕ)
  pub rooted : HasRoots contents game roots
  pub fault_is : first_fault game roots 0 (files_in contents many) ≡ Some (file, at)

-- There are roots, and so many files of sealed frames throughout.
pub record AreSealed (contents : Contents) (many : ℕ) (game : Game) (roots : List (List ℕ)) : Type 0 where
  pub rooted : HasRoots contents game roots
  pub sound : first_fault game roots 0 (files_in contents many) ≡ None

-- The same, and the status tells of the findings.
pub record IsAccusedSo (contents : Contents) (many : ℕ) (status : Status) : Type 0 where
  pub game : Game
  pub roots : List (List ℕ)
  pub sealed : AreSealed contents many game roots
  pub cause : AuditCause (found_by game roots (files_in contents many)) status

-- why it may end so
abbrev pub accuse_cause : (many : ℕ) → Contents → Status → Type 0
accuse_cause many contents (BadSession line what) = session_fault (front_of (content contents 0)) ≡ Some (At line what)
accuse_cause many contents (BadLine Roots line) = IsBadRoots contents line
accuse_cause many contents (BadSeal file at) = IsBadSeal contents many file at
accuse_cause many contents status = IsAccusedSo contents many status

-- It takes memory after its first byte too, for the evidence.
abbrev pub accuse_law : Accusing → Law
accuse_law a = record (law_without_input (a.session ∷ a.roots ∷ a.files)
    -- a file is read only where those before it have what is asked of them
    (λ before after calls. (contents : Contents) → AreContents contents calls → (n : ℕ) → (item_or calls n [] ≡ []) ⊎ MayReadEach contents n)
    (λ contents. accuse_answer (accusation_for contents (length a.files)))
    (accuse_cause (length a.files))
    (λ contents. (game : Game) × (roots : List (List ℕ)) × AreSealed contents (length a.files) game roots × (found_by game roots (files_in contents (length a.files)) ≡ []))
    (λ contents. (game : Game) (roots : List (List ℕ)) → AreSealed contents (length a.files) game roots → AreAllBytes (files_in contents (length a.files)) →
    TellsAccusation game roots (files_in contents (length a.files)) (accuse_answer (accusation_for contents (length a.files))).body)) { late = true }
