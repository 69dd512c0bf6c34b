-- Inputs: what a reader of lines gives is the next of the input.
use Rattle.std.proofs.Common.{◌≡◌, ◌≢◌, ℕ, ◌<◌, List, [], ◌∷◌, ◌++◌, length, refl, ap, ◌∙◌, arith, append_assoc, append-nil}
use Rattle.std.proofs.lemmas.Grind.{common_steps}
use Rattle.line_io.specs.Lines.{onto_some, closed_lines_of, IsOpen}
use Rattle.line_io.specs.Inputs.{Line, End, Fault, Ending, AtEnd, AtFault, lines_then, input_of}
use Rattle.line_io.proofs.FirstLine.{first_whole, last_open}

-- a byte that is no LF
no_lf : (b : ℕ) (bs : List ℕ) → b ≢ 10 → closed_lines_of (b ∷ bs) ≡ onto_some b (closed_lines_of bs)
no_lf b bs h = grind (arith, common_steps)

closed_whole : (p rest : List ℕ) → IsOpen p → closed_lines_of (p ++ 10 ∷ rest) ≡ p ∷ closed_lines_of rest
closed_whole [] rest h = refl
closed_whole (b ∷ bs) rest h = no_lf b (bs ++ 10 ∷ rest) h.0 ∙ ap (onto_some b) (closed_whole bs rest h.1)

closed_open : (p : List ℕ) → IsOpen p → closed_lines_of p ≡ []
closed_open [] h = refl
closed_open (b ∷ bs) h = no_lf b bs h.0 ∙ ap (onto_some b) (closed_open bs h.1)

-- a line with its LF
line_of : (ending : Ending) (line now : List ℕ) → IsOpen line → input_of ending (line ++ 10 ∷ now) ≡ Line line (input_of ending now)
line_of AtEnd line now h = ap (λ ls. lines_then ls End) (first_whole line now h)
line_of AtFault line now h = ap (λ ls. lines_then ls Fault) (closed_whole line now h)

pub line_read : (ending : Ending) (bytes line now rest : List ℕ) → IsOpen line → bytes ≡ line ++ 10 ∷ now → input_of ending (bytes ++ rest) ≡ Line line (input_of ending (now ++ rest))
line_read ending bytes line now rest h e = ap (λ b. input_of ending (b ++ rest)) e ∙ ap (input_of ending) (append_assoc line (10 ∷ now) rest) ∙ line_of ending line (now ++ rest) h

-- the last line, without an LF
pub last_read : (bytes line rest : List ℕ) → IsOpen line → 0 < length line → bytes ≡ line → rest ≡ [] → input_of AtEnd (bytes ++ rest) ≡ Line line End
last_read bytes line rest h l e n = rw (e, n, append-nil line) (ap (λ ls. lines_then ls End) (last_open line l h))

-- the end
pub end_read : (bytes rest : List ℕ) → bytes ≡ [] → rest ≡ [] → input_of AtEnd (bytes ++ rest) ≡ End
end_read bytes rest e n = rw (e, n) refl

-- a fault
pub fault_read : (bytes line : List ℕ) → IsOpen line → bytes ≡ line → input_of AtFault bytes ≡ Fault
fault_read bytes line h e = rw e (ap (λ ls. lines_then ls Fault) (closed_open line h))
