-- Spelling: the text of each field, from what it says.
use Rattle.std.specs.Prelude.{ℕ, ◌≡◌, List, ◌++◌, length, codes}
use Rattle.std.specs.Fmt.{decimal}
use Rattle.hex.specs.Hex.{IsBytes}
use Rattle.definitions.specs.declared.world.Cell.{Cell}
use Rattle.definitions.specs.declared.openings.Nonce.{Nonce}

-- a number in its one form, and a space
abbrev pub number_text : ℕ → List ℕ
number_text n = decimal n ++ codes " "

-- `X Y `
abbrev pub cell_text : Cell → List ℕ
cell_text c = number_text c.x ++ number_text c.y

-- 32 bytes
abbrev pub FitsNonce : Nonce → Type 0
FitsNonce nonce = (length nonce.bytes ≡ 32) × IsBytes nonce.bytes
