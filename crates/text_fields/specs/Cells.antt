-- Cells: a cell at the front of a text.
use Rattle.std.specs.Prelude.{ℕ, List, Option, Some}
use Rattle.definitions.specs.declared.world.Cell.{Cell}
use Rattle.byte_fields.specs.Fronts.{◌>>=◌}
use Rattle.text_fields.specs.Numbers.{number_then}

-- `X Y ` and what stands behind it
unfoldable pub cell_then : List ℕ → Option (Cell × List ℕ)
cell_then text = do
  x ← number_then 65535 text
  y ← number_then 65535 x.1
  Some (record { x = x.0; y = y.0 }, y.1)
