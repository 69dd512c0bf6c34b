-- Bounds: how far counts can have come.
use Rattle.std.specs.Prelude.{ℕ, ◌≤◌}
use Rattle.make_command.specs.declared.counts.Counts.{Counts}

-- none is above the number of steps
pub record AreWithin (c : Counts) (steps : ℕ) : Type 0 where
  pub chosen : c.chosen ≤ steps
  pub delivered : c.delivered ≤ steps
  pub lost : c.lost ≤ steps
  pub repeated : c.repeated ≤ steps
