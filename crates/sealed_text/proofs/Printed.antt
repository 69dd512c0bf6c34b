-- Printed: a text of frames and their seals is written piece by piece.
use Rattle.std.proofs.Common.{◌≡◌, ℕ, ◌+◌, ◌<◌, List, [], ◌∷◌, ◌++◌, length, drop, sym, ap, ◌∙◌, append_assoc}
use Rattle.std.specs.Prelude.{slice_index_or}
use Rattle.std.proofs.lemmas.List.{drop_more}
use Rattle.definitions.specs.declared.frames.TurnFrame.{TurnFrame}
use Rattle.text_lines.specs.Lines.{joined}
use Rattle.text_lines.proofs.Printed.{line_alone, lines_more}
use Rattle.evidence.specs.Text.{frame_line}
use Rattle.sealed_text.specs.Text.{pair_lines, seal_line}

-- the lines before those of the frames, those of the frames and seals, and the last one
pub text_more : (o1 o2 o3 : List ℕ) (heads pairs : List (List ℕ)) (end : List ℕ) → o1 ≡ joined heads → o2 ≡ o1 ++ joined pairs → o3 ≡ o2 ++ end
    → o3 ≡ joined (heads ++ (pairs ++ (end ∷ [])))
text_more o1 o2 o3 heads pairs end p q r = lines_more [] o1 o3 heads (pairs ++ (end ∷ [])) p (lines_more o1 o2 o3 pairs (end ∷ []) q (line_alone o2 o3 end r))

-- the frame at this place and its seal, after those before
pub pair_more : (o1 o2 o3 all : List ℕ) (fs : List TurnFrame) (ss : List (List ℕ)) (i : ℕ) (f : TurnFrame) (s : List ℕ) → i < length fs → i < length ss
    → o2 ≡ o1 ++ frame_line (slice_index_or fs i f) → o3 ≡ o2 ++ seal_line (slice_index_or ss i s) → o1 ++ joined (pair_lines (drop i fs) (drop i ss)) ≡ all
    → o3 ++ joined (pair_lines (drop (i + 1) fs) (drop (i + 1) ss)) ≡ all
pair_more o1 o2 o3 all fs ss i f s a b p q so_far =
    let frame : TurnFrame = slice_index_or fs i f in
    let seal : List ℕ = slice_index_or ss i s in
    let rest : List (List ℕ) = pair_lines (drop (i + 1) fs) (drop (i + 1) ss) in
    let whole : joined (pair_lines (drop i fs) (drop i ss)) ≡ joined (frame_line frame ∷ seal_line seal ∷ rest) =
    ap (λ (gs : List TurnFrame). joined (pair_lines gs (drop i ss))) (drop_more fs i f a)
    ∙ ap (λ (ts : List (List ℕ)). joined (pair_lines (frame ∷ drop (i + 1) fs) ts)) (drop_more ss i s b) in
    ap (λ (t : List ℕ). t ++ joined rest) q ∙ append_assoc o2 (seal_line seal) (joined rest)
    ∙ ap (λ (t : List ℕ). t ++ joined (seal_line seal ∷ rest)) p ∙ append_assoc o1 (frame_line frame) (joined (seal_line seal ∷ rest))
    ∙ ap (λ (t : List ℕ). o1 ++ t) (sym whole) ∙ so_far
