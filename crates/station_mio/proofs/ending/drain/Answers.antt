use Rattle.station_mio.specs.Rows.{stand_of}
use Rattle.station_mio.proofs.Growing.{grows_then, read_grows}
use Rattle.station_mio.proofs.ending.drain.Goals as goal

pub returns-in-NotYet : goal.returns-in-NotYet
returns-in-NotYet g c =
    let history = g.H.Host.history in
    grows_then (history c.args.host.now) (history c.loop.host) (history c.read_row.new.host) c.loop.invariant
    (read_grows (stand_of g.H.Stream.Numbered.number c.loop.row) (history c.loop.host) (history c.read_row.new.host) c.read_row.result _ c.read_row.ensures.asked)

pub returns-in-Ended : goal.returns-in-Ended
returns-in-Ended g c =
    let history = g.H.Host.history in
    grows_then (history c.args.host.now) (history c.loop.host) (history c.read_row.new.host) c.loop.invariant
    (read_grows (stand_of g.H.Stream.Numbered.number c.loop.row) (history c.loop.host) (history c.read_row.new.host) c.read_row.result _ c.read_row.ensures.asked)

pub loop-preserved : goal.loop-preserved
loop-preserved g c =
    let history = g.H.Host.history in
    grows_then (history c.args.host.now) (history c.loop.host) (history c.read_row.new.host) c.loop.invariant
    (read_grows (stand_of g.H.Stream.Numbered.number c.loop.row) (history c.loop.host) (history c.read_row.new.host) c.read_row.result _ c.read_row.ensures.asked)
