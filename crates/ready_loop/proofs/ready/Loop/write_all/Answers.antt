use Rattle.std.proofs.Common.{arith}
use Rattle.ready_loop.proofs.Places.{sockets_length}
use Rattle.ready_loop.proofs.WriteAll.{milder_sockets, writing_all_first, writing_all_on, writing_all_ends}
use Rattle.ready_loop.proofs.ready.Loop.write_all.Goals as goal

pub loop-place-init : goal.loop-place-init
loop-place-init g c = writing_all_first _ c.args.self.now c.requires.serving c.requires.shut

pub socket_at-socket-requires : goal.socket_at-socket-requires
socket_at-socket-requires g c =
    (let same = sockets_length c.args.self.now.table.lines c.loop-place.self.table.lines (milder_sockets c.args.self.now.table c.loop-place.self.table c.loop-place.invariant.serves.milder) in
    let lt = c.loop-place-test.true in let all = c.count-place-end.ensures in omega (arith, same, lt, all))

pub write_out-requires-clause-serving : goal.write_out-requires-clause-serving
write_out-requires-clause-serving g c = c.loop-place.invariant.serving

pub write_out-requires-clause-shut : goal.write_out-requires-clause-shut
write_out-requires-clause-shut g c = c.loop-place.invariant.shut

pub loop-place-preserved : goal.loop-place-preserved
loop-place-preserved g c = writing_all_on c.loop-place.place c.socket_at-socket.result _ _ _ c.args.self.now c.loop-place.self c.write_out.new.self c.loop-place.invariant c.socket_at-socket.ensures c.write_out.ensures

pub returns : goal.returns
returns g c =
    writing_all_ends c.loop-place.place _ _ c.args.self.now c.loop-place.self c.loop-place.invariant
    (let same = sockets_length c.args.self.now.table.lines c.loop-place.self.table.lines (milder_sockets c.args.self.now.table c.loop-place.self.table c.loop-place.invariant.serves.milder) in
    let end = c.loop-place-test.false in let all = c.count-place-end.ensures in omega (arith, same, end, all))
