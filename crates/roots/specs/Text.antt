-- Text: the one text of the roots of a session's players.
use Rattle.std.specs.Prelude.{◌≡◌, ℕ, suc, List, [], ◌∷◌, ◌++◌, length, codes}
use Rattle.hex.specs.Hex.{IsBytes, encode_lower}
use Rattle.definitions.specs.Lists.{EachIs}
use Rattle.text_lines.specs.Lines.{joined, line_of}
use Rattle.text_fields.specs.Spelling.{number_text}

-- `root Q HEX`, the line that says the root of player q
abbrev pub root_line : (q : ℕ) → List ℕ → List ℕ
root_line q root = codes "root " ++ (number_text q ++ (encode_lower root ++ codes "\n"))

-- the lines of these roots, the first of which is that of player q
abbrev pub root_lines : (q : ℕ) → List (List ℕ) → List (List ℕ)
root_lines q [] = []
root_lines q (root ∷ roots) = root_line q root ∷ root_lines (suc q) roots

abbrev pub version_line : List ℕ
version_line = line_of (codes "roots") (1 ∷ [])

abbrev pub end_line : List ℕ
end_line = line_of (codes "end") []

abbrev pub roots_lines : List (List ℕ) → List (List ℕ)
roots_lines roots = version_line ∷ (root_lines 0 roots ++ (end_line ∷ []))

unfoldable pub roots_text : List (List ℕ) → List ℕ
roots_text roots = joined (roots_lines roots)

-- 32 bytes
abbrev pub FitsRoot : List ℕ → Type 0
FitsRoot root = (length root ≡ 32) × IsBytes root

-- one root for each of so many players
pub record AreRootsOf (players : ℕ) (roots : List (List ℕ)) : Type 0 where
  pub count : length roots ≡ players
  pub fits : EachIs FitsRoot roots

-- such roots, and their text
pub record IsReadFrom (players : ℕ) (roots : List (List ℕ)) (text : List ℕ) : Type 0 where
  pub whole : AreRootsOf players roots
  pub text_is : text ≡ roots_text roots
