use Rattle.std.proofs.Common.{ℕ, List, ◌*◌, ◌+◌, ap, ◌∙◌}
use Rattle.cell_set.specs.Bits.{row_bit}
use Rattle.cell_set.proofs.RowPlaces.{part_bit}
use Rattle.cell_set.proofs.rows.row_at.Goals as goal

pub returns : goal.returns
returns g c = λ x.
    ap (λ (r : List ℕ). row_bit r x) c.copy_from_slice.ensures.after
    ∙ part_bit c.args.rows.now c.args.width c.args.height x c.args.y (c.from-first.result * g.row.W) (c.from-first.result * g.row.W + g.row.W) c.requires.rows c.requires.y
    (ap (λ (m : ℕ). m * g.row.W) c.from-first.ensures ∙ ap (λ (w : ℕ). c.args.y * w) c.requires.words) (ap (λ (w : ℕ). c.from-first.result * g.row.W + w) c.requires.words)
