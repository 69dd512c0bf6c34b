-- Laws of lines: what is spelled is read, and what is read was spelled so.
use Rattle.std.specs.Prelude.{ℕ, ◌≡◌, ◌≤◌, ◌⊎◌, List}
use Rattle.definitions.specs.declared.limits.TheConstants.{GREATEST_PLAYER}
use Rattle.drive_command.specs.declared.grammar.DriveLine.{DriveLine}
use Rattle.drive_command.specs.declared.grammar.DriveLine.TheVariants.{Bad}
use Rattle.drive_command.specs.Grammar.{line_of}
use Rattle.drive_command.specs.Spelling.{Says}

-- a line is read as what it says
abbrev pub LinesAreRead : Type 0
LinesAreRead = (last : ℕ) (line : List ℕ) (said : DriveLine) → last ≤ GREATEST_PLAYER → Says last line said → line_of last line ≡ said

-- a line says what it is read as, or it is read as bad and says nothing
abbrev pub LinesAreSpelled : Type 0
LinesAreSpelled = (last : ℕ) (line : List ℕ) → last ≤ GREATEST_PLAYER → Says last line (line_of last line) ⊎ ((line_of last line ≡ Bad) × ((said : DriveLine) → Says last line said → ⊥))
