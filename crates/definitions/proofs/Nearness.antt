-- Nearness: how far cells are from one another by way of others, and what lies within a distance.
use Rattle.std.proofs.Common.{◌≡◌, ℕ, ◌+◌, ◌≤◌, Bool, List, ap, ◌∙◌, arith}
use Rattle.std.specs.Prelude.{◌&&◌, nat_le}
use Rattle.std.specs.List.{list_any}
use Rattle.definitions.specs.declared.world.Cell.{Cell}
use Rattle.definitions.specs.World.{Ground, has_cell, cells_of, distance, is_inside}
use Rattle.definitions.specs.Sphere.{spread}
use Rattle.definitions.proofs.Cells.{has-filter, has-cells}

-- a step leads one further at most
pub further : (a b c : Cell) (k : ℕ) → distance a b ≤ k → distance b c ≤ 1 → distance a c ≤ k + 1
further a b c k first last = omega arith

-- a cell within a distance of others
pub has_spread : (grid : Ground) (k : ℕ) (cells : List Cell) (c : Cell) → has_cell (spread grid k cells) c ≡ (list_any (λ b. nat_le (distance b c) k) cells && is_inside grid c)
unfolding spread
has_spread grid k cells c =
    has-filter (λ d. list_any (λ b. nat_le (distance b d) k) cells) (cells_of grid) c
    ∙ ap (λ (b : Bool). list_any (λ b. nat_le (distance b c) k) cells && b) (has-cells grid c)
