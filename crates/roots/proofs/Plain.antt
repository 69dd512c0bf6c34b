-- Plain: the line of a root has no LF but its last byte.
use Rattle.std.proofs.Common.{◌≡◌, ℕ, ◌^◌, ◌<◌, true, List, [], ◌∷◌, ◌++◌, refl, ap, subst, append_assoc}
use Rattle.std.specs.Prelude.{◌==◌, codes, not}
use Rattle.std.specs.Fmt.{decimal}
use Rattle.std.proofs.lemmas.Bool.{and_from, and_parts}
use Rattle.hex.specs.Hex.{encode_lower}
use Rattle.text_fields.specs.Spelling.{number_text}
use Rattle.text_fields.proofs.Digits.{digits_lower}
use Rattle.text_fields.proofs.Plain.{digits_plain, number_plain}
use Rattle.text_lines.proofs.Joined.{IsLine, bare_line, has_no_lf}
use Rattle.roots.specs.Text.{FitsRoot, root_line}

has_no_lf-append : (front rest : List ℕ) → has_no_lf front ≡ true → has_no_lf rest ≡ true → has_no_lf (front ++ rest) ≡ true
has_no_lf-append [] rest plain others = others
has_no_lf-append (b ∷ front) rest plain others =
    let both = and_parts (not (b == 10)) (has_no_lf front) plain in
    and_from _ _ both.0 (has_no_lf-append front rest both.1 others)

-- what stands before the LF
abbrev before_end : (q : ℕ) → List ℕ → List ℕ
before_end q root = codes "root " ++ (number_text q ++ encode_lower root)

before_end-plain : (q : ℕ) (root : List ℕ) → q < 2 ^ 32 → FitsRoot root → has_no_lf (before_end q root) ≡ true
before_end-plain q root small fits =
    let number = has_no_lf-append (decimal q) (codes " ") (number_plain q small) refl in
    let digits = digits_plain (encode_lower root) (digits_lower root fits.1) in
    has_no_lf-append (codes "root ") (number_text q ++ encode_lower root) refl (has_no_lf-append (number_text q) (encode_lower root) number digits)

pub root_is_line : (q : ℕ) (root : List ℕ) → q < 2 ^ 32 → FitsRoot root → IsLine (root_line q root)
root_is_line q root small fits =
    let whole : before_end q root ++ codes "\n" ≡ root_line q root = ap (λ (t : List ℕ). codes "root " ++ t) (append_assoc (number_text q) (encode_lower root) (codes "\n")) in
    subst IsLine whole (bare_line (before_end q root) (before_end-plain q root small fits))
