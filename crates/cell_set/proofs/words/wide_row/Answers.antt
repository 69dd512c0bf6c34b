use Rattle.std.proofs.Common.{ℕ, Bool, ap, ◌∙◌, arith}
use Rattle.std.proofs.lemmas.List.{length-replicate}
use Rattle.std.specs.Prelude.{nat_lt, ◌&&◌}
use Rattle.cell_set.proofs.words.wide_row.Goals as goal

pub returns : goal.returns
returns g c = λ x lt.
    let zero : ℕ = 0 in
    c.clip_row.ensures x (omega (arith, c.spread_row.auto.out, length-replicate g.row.W zero))
    ∙ ap (λ (b : Bool). nat_lt x c.args.width && b) (c.spread_row.ensures x (omega (arith, length-replicate g.row.W zero, c.requires.row)))
