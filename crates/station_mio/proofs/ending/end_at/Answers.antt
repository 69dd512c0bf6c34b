use Rattle.std.proofs.Common.{◌∙◌}
use Rattle.station_mio.specs.Rows.{stand_of}
use Rattle.station_mio.proofs.Moved.{stands_kept}
use Rattle.station_mio.proofs.Places.{stands_changed}
use Rattle.station_mio.proofs.ending.end_at.Goals as goal

pub returns-clause-asked : goal.returns-clause-asked
returns-clause-asked g c =
    let number = g.H.Stream.Numbered.number in
    let w = stands_changed number c.rows.inside.rows.items c.args.rows.now c.args.place c.end.new.row c.index_mut.result.now c.requires.inside c.index_mut.ensures.value c.rows.view_is in
    (stand_of number c.index_mut.result.now, w.0, c.end.ensures.asked)

pub returns-clause-same : goal.returns-clause-same
returns-clause-same g c =
    stands_kept g.H.Stream.Numbered.number c.rows.inside.rows.items c.args.place c.end.new.row c.index_mut.result.now c.end.ensures.same c.index_mut.ensures.value ∙ c.rows.view_is
