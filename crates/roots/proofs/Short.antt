-- Short: the text of roots has fewer bytes than decide what a file says.
use Rattle.std.proofs.Common.{◌≡◌, ℕ, suc, ◌+◌, ◌*◌, ◌^◌, ◌<◌, ◌≤◌, List, [], ◌∷◌, ◌++◌, length, length-append, ap, arith}
use Rattle.std.specs.Prelude.{codes}
use Rattle.std.specs.Fmt.{decimal}
use Rattle.std.proofs.lemmas.Fmt.{length-decimal-le}
use Rattle.hex.specs.Hex.{encode_lower, lower_digits}
use Rattle.hex.proofs.HexLemmas.{length-encode_with}
use Rattle.definitions.specs.declared.limits.TheConstants.{MOST_PLAYERS}
use Rattle.definitions.specs.Lists.{EachIs}
use Rattle.text_fields.specs.Spelling.{number_text}
use Rattle.text_lines.specs.Lines.{joined}
use Rattle.roots.specs.declared.limits.TheConstants.{ROOTS_FRONT}
use Rattle.roots.specs.Text.{FitsRoot, IsReadFrom, end_line, root_line, root_lines, roots_text, version_line}

root_short : (q : ℕ) (root : List ℕ) → q < 2 ^ 32 → FitsRoot root → length (root_line q root) ≤ 81
root_short q root small fits =
    let number = length-decimal-le 10 q (omega arith) (omega arith) (omega arith) in
    let space = length-append (decimal q) (codes " ") in
    let digits = length-encode_with lower_digits root in
    let count = fits.0 in
    let ended = length-append (encode_lower root) (codes "\n") in
    let rest = length-append (number_text q) (encode_lower root ++ codes "\n") in
    omega arith

lines_short : (q : ℕ) (roots : List (List ℕ)) → q + length roots ≤ 256 → EachIs FitsRoot roots → length (joined (root_lines q roots ++ (end_line ∷ []))) ≤ 81 * length roots + 4
lines_short q [] few fits = omega arith
lines_short q (root ∷ roots) few fits =
    let one = root_short q root (omega arith) fits.0 in
    let ih = lines_short (suc q) roots (omega arith) fits.1 in
    let both = length-append (root_line q root) (joined (root_lines (suc q) roots ++ (end_line ∷ []))) in
    omega arith

pub roots_short : (players : ℕ) (roots : List (List ℕ)) (text : List ℕ) → players ≤ MOST_PLAYERS → IsReadFrom players roots text → length text < ROOTS_FRONT
unfolding roots_text
roots_short players roots text few from =
    let count = from.whole.count in
    let lines = lines_short 0 roots (omega arith) from.whole.fits in
    let first = length-append version_line (joined (root_lines 0 roots ++ (end_line ∷ []))) in
    let number = length-decimal-le 10 1 (omega arith) (omega arith) (omega arith) in
    let version : length version_line ≤ 17 = let digits = length-append (decimal 1) (codes "\n") in omega arith in
    let whole : length text ≡ length (version_line ++ joined (root_lines 0 roots ++ (end_line ∷ []))) = ap (λ (t : List ℕ). length t) from.text_is in
    omega arith
