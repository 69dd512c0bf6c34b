use Rattle.std.proofs.Common.{◌∙◌, ap}
use Rattle.station_mio.specs.Nets.{Net}
use Rattle.station_mio.proofs.Growing.{finishes_more}
use Rattle.station_mio.proofs.sockets.Sockets.finish.Goals as goal

pub loop-init : goal.loop-init
loop-init g c =
    ((c.end_writes.new.self.asks, c.end_writes.ensures.asked, (_, c.time.ensures.ticks.asked, (tt, tt))), ap (λ (n : Net). n.next) c.time.ensures.same ∙ c.end_writes.ensures.next)

pub loop-preserved : goal.loop-preserved
loop-preserved g c =
    let old = c.args.self.now in
    (finishes_more old.stands old.asks c.loop.self.asks c.linger.new.self.asks c.loop.invariant.0 c.linger.ensures.asked, c.linger.ensures.next ∙ c.loop.invariant.1)

pub returns-then-not-linger-clause-finishes : goal.returns-then-not-linger-clause-finishes
returns-then-not-linger-clause-finishes g c =
    let old = c.args.self.now in
    finishes_more old.stands old.asks c.loop.self.asks c.linger.new.self.asks c.loop.invariant.0 c.linger.ensures.asked
