-- Choices: a move and its nonce, which are a text up to its end.
use Rattle.std.specs.Prelude.{ℕ, List, [], ◌++◌, Option, Some, None}
use Rattle.hex.specs.Hex.{encode_lower}
use Rattle.definitions.specs.declared.world.Cell.{Cell}
use Rattle.definitions.specs.declared.world.Move.{Move}
use Rattle.definitions.specs.declared.openings.Nonce.{Nonce}
use Rattle.byte_fields.specs.Fronts.{◌>>=◌}
use Rattle.text_fields.specs.Cells.{cell_then}
use Rattle.text_fields.specs.Hexes.{nonce_of}
use Rattle.text_fields.specs.Spelling.{cell_text}

-- `X Y NONCE`
unfoldable pub step_of : List ℕ → Option (Move × Nonce)
step_of text = do
  to ← cell_then text
  nonce ← nonce_of to.1
  Some (record { to = to.0; strike = None }, nonce)

-- `X Y SX SY NONCE`
unfoldable pub strike_of : List ℕ → Option (Move × Nonce)
strike_of text = do
  to ← cell_then text
  at ← cell_then to.1
  nonce ← nonce_of at.1
  Some (record { to = to.0; strike = Some at.0 }, nonce)

-- the first of two readings that there is
abbrev pub or_else : {A : Type 0} → Option A → Option A → Option A
or_else None second = second
or_else (Some first) second = Some first

-- a move and its nonce
unfoldable pub move_then_nonce : List ℕ → Option (Move × Nonce)
move_then_nonce text = or_else (step_of text) (strike_of text)

-- `SX SY `, or nothing where the move does not strike
abbrev pub strike_text : Option Cell → List ℕ
strike_text None = []
strike_text (Some c) = cell_text c

-- `X Y NONCE` or `X Y SX SY NONCE`
abbrev pub choice_text : Move → Nonce → List ℕ
choice_text mv nonce = cell_text mv.to ++ (strike_text mv.strike ++ encode_lower nonce.bytes)
