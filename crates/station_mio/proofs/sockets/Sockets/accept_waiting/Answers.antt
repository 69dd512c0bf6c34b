use Rattle.std.proofs.Common.{◌+◌, List, sym, subst}
use Rattle.socket_station.specs.declared.answers.Ready.{Ready}
use Rattle.station_mio.specs.Nets.{AcceptsOne}
use Rattle.station_mio.proofs.Coming.{CameSo, came_more}
use Rattle.station_mio.proofs.sockets.Sockets.accept_waiting.Goals as goal

pub loop-preserved : goal.loop-preserved
loop-preserved g c =
    let l = c.loop in
    let new = c.accept_one.new.self in
    let one = subst (λ o. AcceptsOne o l.self new) c.in-Some.is c.accept_one.ensures in
    subst (λ (x : List Ready). CameSo (l.counter + 1) c.args.ready.now x c.args.self.now new) (sym c.push.ensures)
    (came_more l.counter c.in-Some.number c.args.ready.now l.ready c.args.self.now l.self new l.invariant one)
