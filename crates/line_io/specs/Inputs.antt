-- Inputs: what is read of a source, line by line.
use Rattle.std.specs.Prelude.{◌≡◌, ℕ, Bool, true, List, [], ◌∷◌}
use Rattle.line_io.specs.Lines.{lines_of, closed_lines_of}

-- an input as it is read: a line and then more of it, its end, or a fault of the source
pub data Input : Type 0 where
  Line : (line : List ℕ) → Input → Input
  End : Input
  Fault : Input

-- what reading comes to
pub data Ending : Type 0 where
  -- the end of the source
  AtEnd : Ending
  -- a fault of the source
  AtFault : Ending

-- these lines, and then this
abbrev pub lines_then : List (List ℕ) → Input → Input
lines_then [] input = input
lines_then (line ∷ lines) input = Line line (lines_then lines input)

-- the lines of an input
abbrev pub lines_in : Input → List (List ℕ)
lines_in (Line line input) = line ∷ lines_in input
lines_in End = []
lines_in Fault = []

-- what reading it comes to
abbrev pub ending_of : Input → Ending
ending_of (Line line input) = ending_of input
ending_of End = AtEnd
ending_of Fault = AtFault

-- an input of which these bytes are read until its end or until a fault: after a fault a line that has no LF yet is not read
abbrev pub input_of : Ending → List ℕ → Input
input_of AtEnd bytes = lines_then (lines_of bytes) End
input_of AtFault bytes = lines_then (closed_lines_of bytes) Fault

-- These bytes may stand behind those that were read: none where the source answered the end.
abbrev pub MayFollow : (ended : Bool) → (rest : List ℕ) → Type 0
MayFollow ended rest = ended ≡ true → rest ≡ []
