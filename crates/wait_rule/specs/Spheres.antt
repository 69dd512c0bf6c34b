-- Spheres: what holds of the two sets that are compared.
use Rattle.std.specs.Prelude.{◌≡◌, ℕ, List, [], ◌∷◌, IfSome}
use Rattle.definitions.specs.declared.world.Cell.{Cell}
use Rattle.definitions.specs.World.{Game}
use Rattle.definitions.specs.Sphere.{sphere_of}
use Rattle.cell_set.specs.Regions.{IsSizeOf}
use Rattle.dilation.specs.Following.{IsDilationOf}
use Rattle.wait_rule.specs.declared.views.Stage.{Stage}
use Rattle.wait_rule.specs.declared.views.Stage.TheVariants.{Commit, Reveal, After}
use Rattle.wait_rule.specs.declared.meeting.Meeting.{Meeting}

-- the cells at which the players were last seen, in order of player
abbrev pub cells_in : Meeting → List Cell
cells_in m = m.dilation.cells

-- made for this session: the players are followed by it, the sets have its grid's size, and the own sphere is that of the player
-- and the cell that it names
pub record IsMeeting (game : Game) (m : Meeting) : Type 0 where
  pub dilated : IsDilationOf game m.dilation
  pub size : IsSizeOf game.grid m.own
  pub size_theirs : IsSizeOf game.grid m.theirs
  pub taken : IfSome m.stood (λ s. m.own.cells ≡ sphere_of game s.player (s.cell ∷ []))

-- where the players were last seen and the own sphere are the same
pub record Stays (game : Game) (before after : Meeting) : Type 0 where
  pub cells : cells_in after ≡ cells_in before
  pub own : after.own ≡ before.own
  pub meeting : IsMeeting game after

-- the own sphere, by the stage's cell
abbrev pub IsSight : Game → ℕ → Stage → List Cell → Type 0
IsSight game me (Commit t last) cells = cells ≡ sphere_of game me (last ∷ [])
IsSight game me (Reveal t at) cells = cells ≡ sphere_of game me (at ∷ [])
IsSight game me After cells = Unit {0}
