use Rattle.std.proofs.Common.{arith}
use Rattle.std.proofs.lemmas.Result.{err_from_is_err_and}
use Rattle.ready_loop.proofs.Places.{sockets_length}
use Rattle.ready_loop.proofs.Served.{lines_differ}
use Rattle.ready_loop.proofs.ReadAll.{all_first, all_on, all_stops, all_ends}
use Rattle.ready_loop.proofs.ready.Loop.read_all.Goals as goal

pub loop-place-init : goal.loop-place-init
loop-place-init g c = all_first _ c.args.self.now c.requires.ready

pub read_out-requires-clause-ready : goal.read_out-requires-clause-ready
read_out-requires-clause-ready g c = c.loop-place.invariant.ready

pub returns-in_err-read_out : goal.returns-in_err-read_out
returns-in_err-read_out g c =
    let p = err_from_is_err_and c.from_residual.result c.from_residual.ensures.1 in
    rw (p.1, p.2)
    (all_stops c.in_err-read_out.field-0.0 c.loop-place.place c.socket_at-socket.result _ _ _ c.args.self.now c.loop-place.self c.read_out.new.self c.loop-place.invariant c.in_err-read_out.ensures)

pub loop-place-preserved : goal.loop-place-preserved
loop-place-preserved g c =
    all_on _ c.loop-place.place c.socket_at-socket.result _ _ _ c.args.self.now c.loop-place.self c.read_out.new.self c.loop-place.invariant
    (lines_differ _ c.loop-place.self c.loop-place.invariant.ready.told c.loop-place.invariant.ready.steady.idle) c.socket_at-socket.ensures
    c.in_ok-read_out.ensures

pub returns : goal.returns
returns g c =
    all_ends c.loop-place.place _ _ c.args.self.now c.loop-place.self c.loop-place.invariant
    (let same = sockets_length c.args.self.now.table.lines c.loop-place.self.table.lines c.loop-place.invariant.sockets in let end = c.loop-place-test.false in let all = c.count-place-end.ensures in omega (arith, same, end, all))
