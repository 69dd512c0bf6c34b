-- Printed: a text of roots is written piece by piece.
use Rattle.std.proofs.Common.{◌≡◌, ℕ, List, [], ◌∷◌, ◌++◌, sym, ap, ◌∙◌}
use Rattle.text_lines.specs.Lines.{joined}
use Rattle.text_lines.proofs.Printed.{line_alone, line_more, lines_more}
use Rattle.roots.specs.Text.{end_line, root_lines, roots_text, version_line}

-- the first line, those of the roots, and the last one
pub text_of : (none first more all : List ℕ) (roots : List (List ℕ)) → none ≡ [] → first ≡ none ++ version_line → more ≡ first ++ joined (root_lines 0 roots) → all ≡ more ++ end_line → all ≡ roots_text roots
unfolding roots_text
text_of none first more all roots empty p q r =
    let last = lines_more first more all (root_lines 0 roots) (end_line ∷ []) q (line_alone more all end_line r) in
    sym (line_more [] first version_line (root_lines 0 roots ++ (end_line ∷ [])) all (p ∙ ap (λ (t : List ℕ). t ++ version_line) empty) (sym last))
