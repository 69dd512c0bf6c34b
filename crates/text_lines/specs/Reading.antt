-- Reading: what a text says that is read line by line. A reader has a type of faults of its own: each word takes the fault that is due.
use Rattle.std.specs.Prelude.{ℕ, Bool, List, [], ◌∷◌, Option, Some, None, Result, Ok, Err, if◌then◌else◌}

infixl 10 ◌>>=◌
-- the next line's answer, unless a line before was at fault
abbrev pub ◌>>=◌ : {E A B : Type 0} → Result A E → (A → Result B E) → Result B E
(Ok x) >>= f = f x
(Err e) >>= f = Err e

-- the value where the line keeps the rule, and otherwise the fault
abbrev pub keeps : {E A : Type 0} → E → Bool → A → Result A E
keeps e holds x = if holds then Ok x else Err e

-- what is said, and the fault where nothing is
abbrev pub or_fault : {E A : Type 0} → E → Option A → Result A E
or_fault e None = Err e
or_fault e (Some x) = Ok x

-- what a line of the right form says, and the lines behind it
abbrev pub formed : {E A : Type 0} → E → Option A → List (List ℕ) → Result (A × List (List ℕ)) E
formed e None lines = Err e
formed e (Some x) lines = Ok (x, lines)

-- what the next line says, which has the form that is read, and the lines behind it; the fault where it is missing or has another form
abbrev pub line_at : {E A : Type 0} → E → (List ℕ → Option A) → List (List ℕ) → Result (A × List (List ℕ)) E
line_at e read [] = Err e
line_at e read (line ∷ lines) = formed e (read line) lines

-- behind the last line no line stands, and nothing more is said
abbrev pub ends_at : {E A : Type 0} → E → List (List ℕ) → Result (List A) E
ends_at e [] = Ok []
ends_at e (line ∷ lines) = Err e

-- the fault, where there is one
abbrev pub fault_of : {E A : Type 0} → Result A E → Option E
fault_of (Ok x) = None
fault_of (Err e) = Some e
