use Rattle.cell_set.proofs.RowPlaces.{zeros_lit}
use Rattle.cell_set.proofs.rows.row_or_none.Goals as goal

pub returns-then-y-height : goal.returns-then-y-height
returns-then-y-height g c = λ x. zeros_lit c.args.rows.now c.args.width c.args.height c.args.y g.row.W x c.requires.rows c.if-y-height.true
