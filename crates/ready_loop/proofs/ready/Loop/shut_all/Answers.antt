use Rattle.std.proofs.Common.{arith, sym, subst, ◌∙◌, ◌+◌}
use Rattle.ready_loop.specs.States.{LoopState}
use Rattle.ready_loop.proofs.Places.{sockets_length}
use Rattle.ready_loop.proofs.WriteAll.{milder_sockets}
use Rattle.ready_loop.proofs.Served.{ShuttingAll, shut_first, shut_passed, shut_on, shut_ends}
use Rattle.ready_loop.proofs.ready.Loop.shut_all.Goals.{then-asks_shut, else-asks_shut}
use Rattle.ready_loop.proofs.ready.Loop.shut_all.Goals as goal

pub loop-place-init : goal.loop-place-init
loop-place-init g c = shut_first _ c.args.self.now c.requires.serving

pub socket_at-socket-requires : goal.socket_at-socket-requires
socket_at-socket-requires g c =
    (let same = sockets_length c.args.self.now.table.lines c.loop-place.self.table.lines (milder_sockets c.args.self.now.table c.loop-place.self.table c.loop-place.invariant.serves.milder) in
    let lt = c.loop-place-test.true in let all = c.count-place-end.ensures in omega (arith, same, lt, all))

pub asks_shut-requires : goal.asks_shut-requires
asks_shut-requires g c =
    (let same = sockets_length c.args.self.now.table.lines c.loop-place.self.table.lines (milder_sockets c.args.self.now.table c.loop-place.self.table c.loop-place.invariant.serves.milder) in
    let lt = c.loop-place-test.true in let all = c.count-place-end.ensures in omega (arith, same, lt, all))

pub loop-place-preserved : goal.loop-place-preserved
loop-place-preserved g c =
    elim c.if-asks_shut.branch [
      | then-asks_shut w ↦
          subst (λ (x : LoopState). ShuttingAll (c.loop-place.place + 1) (g.S.Station.history c.args.station.now) (g.S.Station.history c.if-asks_shut.station) c.args.self.now x) (sym w.self-is)
          (subst (λ (s : g.row.S.Denot). ShuttingAll (c.loop-place.place + 1) (g.S.Station.history c.args.station.now) (g.S.Station.history s) c.args.self.now w.shut.new.self) (sym w.station-is)
          (shut_on c.loop-place.place c.socket_at-socket.result _ _ _ c.args.self.now c.loop-place.self w.shut.new.self c.loop-place.invariant c.socket_at-socket.ensures w.shut.ensures))
      | else-asks_shut w ↦
          subst (λ (x : LoopState). ShuttingAll (c.loop-place.place + 1) (g.S.Station.history c.args.station.now) (g.S.Station.history c.if-asks_shut.station) c.args.self.now x) (sym w.self-is)
          (subst (λ (s : g.row.S.Denot). ShuttingAll (c.loop-place.place + 1) (g.S.Station.history c.args.station.now) (g.S.Station.history s) c.args.self.now c.loop-place.self) (sym w.station-is)
          (shut_passed c.loop-place.place _ _ c.args.self.now c.loop-place.self c.loop-place.invariant (λ x h. sym (c.asks_shut.ensures x h) ∙ w.if-asks_shut.false)))
    ]

pub returns : goal.returns
returns g c =
    shut_ends c.loop-place.place _ _ c.args.self.now c.loop-place.self c.loop-place.invariant
    (let same = sockets_length c.args.self.now.table.lines c.loop-place.self.table.lines (milder_sockets c.args.self.now.table c.loop-place.self.table c.loop-place.invariant.serves.milder) in
    let end = c.loop-place-test.false in let all = c.count-place-end.ensures in omega (arith, same, end, all))
