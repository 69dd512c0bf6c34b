use Rattle.std.proofs.Common.{take}
use Rattle.grid_world.specs.Grids.{AreRowsOf}
use Rattle.grid_world.proofs.grid.rows_of.Given as goal

abbrev pub invariant-loop-wall : goal.invariant-loop-wall
invariant-loop-wall l = AreRowsOf (record { width = l.width; height = l.height; walls = take l.wall-index l.walls }) l.rows.items
