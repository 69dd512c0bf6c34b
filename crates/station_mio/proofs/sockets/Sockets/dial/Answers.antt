use Rattle.std.proofs.Common.{true, false, sym, ap, ◌∙◌}
use Rattle.std.proofs.lemmas.Bool.{lt-ltb, le-ltb}
use Rattle.socket_station.specs.declared.answers.Dial.TheVariants.{Socket}
use Rattle.station_mio.specs.Rows.{Due}
use Rattle.station_mio.specs.Nets.{Net, added}
use Rattle.station_mio.proofs.Dialled.{dials_in}
use Rattle.station_mio.proofs.sockets.Sockets.dial.Goals as goal

pub returns-then-now-due-clause-dials : goal.returns-then-now-due-clause-dials
returns-then-now-due-clause-dials g c =
    let next = ap (λ (n : Net). n.next) c.self.view_is in
    let d = c.due-due.new.self in
    dials_in c.args.self.now c.time-now.new.self d c.add.new.self c.args.player c.time-now.result c.due-due.result c.args.addr (Socket c.add.result) true
    (sym c.has_room.ensures ∙ c.if-not-has_room.false) c.time-now.ensures.ticks c.time-now.ensures.same c.due-due.ensures.due c.due-due.ensures.same
    (lt-ltb c.time-now.result c.due-due.result c.if-now-due.true)
    (ap Socket c.add.ensures.number, c.add.ensures.added ∙ ap (λ n. added (Due n c.args.addr c.due-due.result) d) next)

pub returns-clause-dials : goal.returns-clause-dials
returns-clause-dials g c =
    dials_in c.args.self.now c.time-now.new.self c.due-due.new.self c.dial_now.new.self c.args.player c.time-now.result c.due-due.result c.args.addr c.dial_now.result false
    (sym c.has_room.ensures ∙ c.if-not-has_room.false) c.time-now.ensures.ticks c.time-now.ensures.same c.due-due.ensures.due c.due-due.ensures.same
    (le-ltb c.time-now.result c.due-due.result c.if-now-due.false)
    c.dial_now.ensures.dials
