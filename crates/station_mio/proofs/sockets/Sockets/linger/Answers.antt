use Rattle.station_mio.proofs.Growing.{grows_then, waits_grow}
use Rattle.station_mio.proofs.sockets.Sockets.linger.Goals as goal

pub returns-then-until-now-clause-asked : goal.returns-then-until-now-clause-asked
returns-then-until-now-clause-asked g c =
    grows_then c.args.self.now.asks c.drain.new.self.asks c.time-now.new.self.asks c.drain.ensures.asked (_, c.time-now.ensures.ticks.asked, (tt, tt))

pub returns-clause-asked : goal.returns-clause-asked
returns-clause-asked g c =
    let timed = c.time-now.new.self in
    grows_then c.args.self.now.asks timed.asks c.wait.new.self.asks
    (grows_then c.args.self.now.asks c.drain.new.self.asks timed.asks c.drain.ensures.asked (_, c.time-now.ensures.ticks.asked, (tt, tt)))
    (waits_grow c.wait.result c.wait.new.tokens.items timed c.wait.new.self c.wait.ensures.waits)
