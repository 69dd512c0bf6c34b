use Rattle.std.proofs.Common.{◌∙◌}
use Rattle.station_mio.proofs.Moved.{stands_kept}
use Rattle.station_mio.proofs.moving.write_at.Goals as goal

pub returns-clause-stands : goal.returns-clause-stands
returns-clause-stands g c =
    stands_kept g.H.Stream.Numbered.number c.rows.inside.rows.items c.args.place c.write_row.new.row c.index_mut.result.now c.write_row.ensures.same c.index_mut.ensures.value ∙ c.rows.view_is
