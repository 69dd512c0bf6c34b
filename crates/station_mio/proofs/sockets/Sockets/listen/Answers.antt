use Rattle.std.proofs.Common.{sym, ◌∙◌}
use Rattle.station_mio.proofs.Dialled.{listens_now}
use Rattle.station_mio.proofs.sockets.Sockets.listen.Goals as goal

pub returns : goal.returns
returns g c =
    let m = c.select.new.self in
    listens_now c.args.self.now m c.listen_now.new.self c.args.addr c.listen_now.result c.select.ensures.asked c.select.ensures.same (sym c.selects.ensures ∙ c.if-not-selects.false) c.listen_now.ensures.asked c.listen_now.ensures.same c.listen_now.ensures.listens c.listen_now.ensures.kept
