-- Rows: what is kept by the turn and then by the player, as far as frames came.
use Rattle.std.specs.Prelude.{ℕ, List, Vec, [], slice_get}
use Rattle.std.specs.Option.{option_map_or}
use Rattle.frame_index.specs.declared.kept.KeptFrame.{KeptFrame}
use Rattle.frame_index.specs.Kept.{TurnKept}

-- what is kept of the player
abbrev pub kept_at : List TurnKept → ℕ → List KeptFrame
kept_at row q = option_map_or (λ v. v.kept.items) (slice_get row q) []

-- the row of the turn
abbrev pub row_at : {A : Type 0} → List (Vec TurnKept A) → ℕ → List TurnKept
row_at rows t = option_map_or (λ r. r.items) (slice_get rows t) []

-- what is kept of the player's turn
abbrev pub kept_by : {A : Type 0} → List (Vec TurnKept A) → ℕ → ℕ → List KeptFrame
kept_by rows q t = kept_at (row_at rows t) q
