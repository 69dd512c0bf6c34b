use Rattle.station_mio.specs.Rows.{stand_of}
use Rattle.station_mio.proofs.Places.{stands_changed}
use Rattle.station_mio.proofs.dialling.go_on_at.Goals as goal

pub returns : goal.returns
returns g c =
    let number = g.H.Stream.Numbered.number in
    let w = stands_changed number c.rows.inside.rows.items c.args.rows.now c.args.place c.go_on_in.new.row c.index_mut.result.now c.requires c.index_mut.ensures.value c.rows.view_is in
    (stand_of number c.index_mut.result.now, stand_of number c.go_on_in.new.row, w.0, w.1, c.go_on_in.ensures)
