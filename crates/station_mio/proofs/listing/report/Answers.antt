use Rattle.station_mio.specs.Listing.{seen_of}
use Rattle.station_mio.proofs.Seeing.{token_read}
use Rattle.station_mio.proofs.listing.report.Goals as goal

pub returns-in-Ok : goal.returns-in-Ok
returns-in-Ok g c =
    token_read (seen_of c.args.rows.now c.args.backlog.now c.args.ready.now) (seen_of c.report_socket.new.rows c.args.backlog.now c.report_socket.new.ready)
    c.in-Ok.number c.args.token c.if-token-eq-LISTENER.false c.in-Ok.ensures.0 c.in-Ok.ensures.1 (c.report_socket.ensures c.args.backlog.now)
