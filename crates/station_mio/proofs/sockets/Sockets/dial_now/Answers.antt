use Rattle.std.proofs.Common.{true, false, refl, sym, ◌∙◌}
use Rattle.socket_station.specs.declared.answers.Dial.TheVariants.{Failed}
use Rattle.station_mio.proofs.Dialled.{dials_now}
use Rattle.station_mio.proofs.sockets.Sockets.dial_now.Goals as goal

pub returns-then-not-selects-clause-dials : goal.returns-then-not-selects-clause-dials
returns-then-not-selects-clause-dials g c =
    let m = c.select.new.self in
    dials_now c.args.self.now m m c.args.now c.args.addr Failed c.select.ensures.asked c.select.ensures.same false (sym c.selects.ensures ∙ c.if-not-selects.true) (refl, refl)

pub returns-clause-dials : goal.returns-clause-dials
returns-clause-dials g c =
    let m = c.select.new.self in
    dials_now c.args.self.now m c.dial_at.new.self c.args.now c.args.addr c.dial_at.result c.select.ensures.asked c.select.ensures.same true (sym c.selects.ensures ∙ c.if-not-selects.false) c.dial_at.ensures.dials
