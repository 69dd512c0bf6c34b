-- Laws of sealed texts: how they are told, that each ends before the front of a file, and which line
-- is at fault.
use Rattle.std.specs.Prelude.{◌≡◌, ℕ, ◌+◌, ◌-◌, ◌<◌, ◌≤◌, List, ◌++◌, length, take, Some, Ok}
use Rattle.definitions.specs.World.{Game}
use Rattle.text_lines.specs.Lines.{ended_lines_of}
use Rattle.text_fields.specs.declared.fault.TextFault.TheVariants.{At}
use Rattle.sealed_evidence.specs.declared.sealed.SealedExhibit.{SealedExhibit}
use Rattle.sealed_text.specs.declared.limits.TheConstants.{SEALED_FRONT}
use Rattle.sealed_text.specs.Text.{IsSealed, sealed_text}
use Rattle.sealed_text.specs.Reading.{sealed_at, sealed_fault}
use Rattle.sealed_text.specs.Answers.{IsReadFrom}

-- the text of a sealed exhibit is read as it
abbrev pub SealedTextsAreRead : Type 0
SealedTextsAreRead = (game : Game) (x : SealedExhibit) → IsSealed game x → sealed_at game (sealed_text x) ≡ Ok x

-- a text that is read as a sealed exhibit is its text
abbrev pub SealedTextsAreSpelled : Type 0
SealedTextsAreSpelled = (game : Game) (text : List ℕ) (x : SealedExhibit) → sealed_at game text ≡ Ok x → IsReadFrom game x text

-- each such text ends before the front of a file that decides
abbrev pub SealedTextsFitTheFront : Type 0
SealedTextsFitTheFront = (game : Game) (x : SealedExhibit) → IsSealed game x → length (sealed_text x) < SEALED_FRONT

-- the text of some sealed exhibit of the session begins with these lines
abbrev pub BeginsSealed : Game → List (List ℕ) → Type 0
BeginsSealed game lines = (x : SealedExhibit) × (rest : List (List ℕ)) × IsSealed game x × (ended_lines_of (sealed_text x) ≡ lines ++ rest)

-- Line n of these is the first at fault: it is one of them, or the one that is missing after the last.
pub record IsFirstFault (game : Game) (lines : List (List ℕ)) (n : ℕ) : Type 0 where
  pub number : (1 ≤ n) × (n ≤ length lines + 1)
  -- some sealed exhibit begins with the lines before it
  pub before : BeginsSealed game (take (n - 1) lines)
  -- and none with the line, too
  pub faulty : n ≤ length lines → BeginsSealed game (take n lines) → ⊥

-- the line that is said to be at fault is the first at fault
abbrev pub FirstFaultsAreFirst : Type 0
FirstFaultsAreFirst = (game : Game) (text : List ℕ) (n : ℕ) → sealed_fault game text ≡ Some (At n) → IsFirstFault game (ended_lines_of text) n
