use Rattle.std.proofs.Common.{sym, subst, ◌∙◌}
use Rattle.grid_world.specs.Grids.{IsGrid}
use Rattle.grid_world.proofs.Facts.{wall_outside}
use Rattle.grid_world.proofs.grid.Grid.wall.Goals as goal

pub returns-then-not-inside : goal.returns-then-not-inside
returns-then-not-inside c =
    sym (wall_outside c.args.self.now c.args.cell (subst IsGrid c.self.view_is c.self.invariant.0) (sym c.inside.ensures ∙ c.if-not-inside.true))
