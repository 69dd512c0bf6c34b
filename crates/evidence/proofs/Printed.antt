-- Writing a text piece by piece.
use Rattle.std.proofs.Common.{◌≡◌, ℕ, List, [], ◌∷◌, ◌++◌}
use Rattle.text_lines.specs.Lines.{joined}
use Rattle.text_lines.proofs.Printed.{line_alone, lines_more}

-- the lines before those of the frames, those of the frames, and the last one
pub text_more : (o1 o2 o3 : List ℕ) (heads frames : List (List ℕ)) (end : List ℕ) → o1 ≡ joined heads → o2 ≡ o1 ++ joined frames → o3 ≡ o2 ++ end
    → o3 ≡ joined (heads ++ (frames ++ (end ∷ [])))
text_more o1 o2 o3 heads frames end p q r = lines_more [] o1 o3 heads (frames ++ (end ∷ [])) p (lines_more o1 o2 o3 frames (end ∷ []) q (line_alone o2 o3 end r))
