use Rattle.host_log.proofs.Appended.{appended_step, appended_end}
use Rattle.host_log.proofs.log_file.append.Goals as goal

pub loop-rest-preserved : goal.loop-rest-preserved
loop-rest-preserved g c =
    let history = g.H.Host.history in
    appended_step c.args.bytes.now c.loop-rest.rest.now c.in-Some.left.now (history c.args.host.now) (history c.loop-rest.host) (history c.append_some.new.host) c.loop-rest.invariant c.in-Some.ensures

pub returns-in-None : goal.returns-in-None
returns-in-None g c =
    let history = g.H.Host.history in
    appended_end c.args.bytes.now c.loop-rest.rest.now (history c.args.host.now) (history c.loop-rest.host) (history c.append_some.new.host) c.loop-rest.invariant c.in-None.ensures
