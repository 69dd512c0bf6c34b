-- Cases: worked texts, and which roots or which line at fault each says.
use Rattle.std.specs.Prelude.{◌≡◌, ℕ, List, [], ◌∷◌, ◌++◌, Result, Ok, Err, codes, replicate}
use Rattle.text_fields.specs.declared.fault.TextFault.{TextFault}
use Rattle.text_fields.specs.declared.fault.TextFault.TheVariants.{At}
use Rattle.roots.specs.Text.{roots_text}
use Rattle.roots.specs.Reading.{roots_at}

-- 64 digits, and 64 others
abbrev pub low_digits : List ℕ
low_digits = codes "0a0a0a0a0a0a0a0a0a0a0a0a0a0a0a0a0a0a0a0a0a0a0a0a0a0a0a0a0a0a0a0a"

abbrev pub high_digits : List ℕ
high_digits = codes "f9f9f9f9f9f9f9f9f9f9f9f9f9f9f9f9f9f9f9f9f9f9f9f9f9f9f9f9f9f9f9f9"

-- the first 64 without two of them
abbrev pub rest_digits : List ℕ
rest_digits = codes "0a0a0a0a0a0a0a0a0a0a0a0a0a0a0a0a0a0a0a0a0a0a0a0a0a0a0a0a0a0a0a"

-- the roots that the 64 digits spell
abbrev pub two_roots : List (List ℕ)
two_roots = replicate 32 10 ∷ replicate 32 249 ∷ []

-- the text of these parts, with 64 digits between the first two and between the last two
abbrev pub text_with : (start middle end : List ℕ) → List ℕ
text_with start middle end = start ++ (low_digits ++ (middle ++ (high_digits ++ end)))

-- what this text says of two players
abbrev pub says : (start middle end : List ℕ) → Result (List (List ℕ)) TextFault
says start middle end = roots_at 2 (text_with start middle end)

-- two roots have the text that one would write by hand, and it is read as these
pub record TellsTwoRoots : Type 0 where
  pub spelled : roots_text two_roots ≡ text_with (codes "roots 1\nroot 0 ") (codes "\nroot 1 ") (codes "\nend\n")
  pub read : says (codes "roots 1\nroot 0 ") (codes "\nroot 1 ") (codes "\nend\n") ≡ Ok two_roots

-- texts that differ from that one in one thing each, and the line at which each is at fault
pub record NamesTheLineAtFault : Type 0 where
  -- no line at all
  pub nothing : roots_at 2 [] ≡ Err (At 1)
  -- another version
  pub version : says (codes "roots 2\nroot 0 ") (codes "\nroot 1 ") (codes "\nend\n") ≡ Err (At 1)
  -- player 1 before player 0
  pub order : says (codes "roots 1\nroot 1 ") (codes "\nroot 0 ") (codes "\nend\n") ≡ Err (At 2)
  -- player 0 twice
  pub twice : says (codes "roots 1\nroot 0 ") (codes "\nroot 0 ") (codes "\nend\n") ≡ Err (At 3)
  -- a number with a 0 in front
  pub zero : says (codes "roots 1\nroot 00 ") (codes "\nroot 1 ") (codes "\nend\n") ≡ Err (At 2)
  -- two spaces
  pub spaces : says (codes "roots 1\nroot 0 ") (codes "\nroot 1  ") (codes "\nend\n") ≡ Err (At 3)
  -- a capital digit
  pub capital : roots_at 2 (codes "roots 1\nroot 0 0A" ++ (rest_digits ++ (codes "\nroot 1 " ++ (high_digits ++ codes "\nend\n")))) ≡ Err (At 2)
  -- 63 digits
  pub short : roots_at 2 (codes "roots 1\nroot 0 0" ++ (rest_digits ++ (codes "\nroot 1 " ++ (high_digits ++ codes "\nend\n")))) ≡ Err (At 2)
  -- 65 digits
  pub long : says (codes "roots 1\nroot 0 ") (codes "\nroot 1 0") (codes "\nend\n") ≡ Err (At 3)
  -- one root for two players
  pub few : roots_at 2 (codes "roots 1\nroot 0 " ++ (low_digits ++ codes "\nend\n")) ≡ Err (At 3)
  -- two roots for one player
  pub many : roots_at 1 (text_with (codes "roots 1\nroot 0 ") (codes "\nroot 1 ") (codes "\nend\n")) ≡ Err (At 3)
  -- `end` is missing
  pub ending : says (codes "roots 1\nroot 0 ") (codes "\nroot 1 ") (codes "\n") ≡ Err (At 4)
  -- a last line without its LF
  pub unended : says (codes "roots 1\nroot 0 ") (codes "\nroot 1 ") (codes "\nend") ≡ Err (At 4)
  -- an empty line after `end`
  pub more : says (codes "roots 1\nroot 0 ") (codes "\nroot 1 ") (codes "\nend\n\n") ≡ Err (At 5)
