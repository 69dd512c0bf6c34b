use Rattle.std.proofs.lemmas.Result.{err_from_is_err_and}
use Rattle.ready_loop.proofs.Places.{at_same}
use Rattle.ready_loop.proofs.ReadAll.{out_first, out_on, out_stops, out_ends}
use Rattle.ready_loop.proofs.CallsIn.{at_few, wants_none}
use Rattle.ready_loop.proofs.ready.Loop.read_out.Goals as goal

pub loop-self-init : goal.loop-self-init
loop-self-init g c = out_first c.args.socket _ c.args.self.now c.requires.ready

pub wants_read-requires : goal.wants_read-requires
wants_read-requires g c = at_few c.args.self.now.table c.loop-self.self.table c.args.place c.args.socket c.loop-self.invariant.sockets c.requires.at

pub read-requires-clause-at : goal.read-requires-clause-at
read-requires-clause-at g c = at_same c.args.self.now.table c.loop-self.self.table c.args.place c.args.socket c.loop-self.invariant.sockets c.requires.at

pub read-requires-clause-ready : goal.read-requires-clause-ready
read-requires-clause-ready g c = c.loop-self.invariant.ready

pub returns-in_err-read : goal.returns-in_err-read
returns-in_err-read g c =
    let p = err_from_is_err_and c.from_residual.result c.from_residual.ensures.1 in
    rw (p.1, p.2)
    (out_stops c.in_err-read.field-0.0 c.args.place c.args.socket _ _ _ c.args.self.now c.loop-self.self c.read.new.self c.loop-self.invariant c.in_err-read.ensures)

pub loop-self-smaller : goal.loop-self-smaller
loop-self-smaller g c = c.in_ok-read.ensures.less

pub loop-self-preserved : goal.loop-self-preserved
loop-self-preserved g c = out_on _ c.args.place c.args.socket _ _ _ c.args.self.now c.loop-self.self c.read.new.self c.loop-self.invariant c.in_ok-read.ensures

pub returns : goal.returns
returns g c = out_ends c.args.place c.args.socket _ _ c.args.self.now c.loop-self.self c.loop-self.invariant (wants_none c.loop-self.self.table c.args.place c.wants_read.result c.wants_read.ensures c.loop-self-test.false)
