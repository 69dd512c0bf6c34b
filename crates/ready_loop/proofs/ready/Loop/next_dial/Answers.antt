use Rattle.std.proofs.Common.{sym, ◌∙◌, arith}
use Rattle.definition_laws.proofs.Nexts.{some_at}
use Rattle.ready_loop.proofs.Dialled.{none_next, more_unwanted, none_before}
use Rattle.ready_loop.proofs.ready.Loop.next_dial.Goals as goal

pub loop-seat-init : goal.loop-seat-init
loop-seat-init c = none_before c.args.self.now.peer.me c.args.self.now.table

pub returns-then-wants_dial : goal.returns-then-wants_dial
returns-then-wants_dial c =
    let there = some_at c.args.self.now.table.seats c.loop-seat.seat (let lt = c.loop-seat-test.true in let all = c.others-seat-end.ensures in omega (arith, lt, all)) in
    (there.0, there.1, sym (c.wants_dial.ensures there.0 there.1) ∙ c.if-wants_dial.true)

pub loop-seat-preserved : goal.loop-seat-preserved
loop-seat-preserved c = more_unwanted c.args.self.now.peer.me c.args.self.now.table c.loop-seat.seat c.wants_dial.result c.loop-seat.invariant c.wants_dial.ensures c.if-wants_dial.false

pub returns : goal.returns
returns c = none_next c.args.self.now c.loop-seat.seat (let end = c.loop-seat-test.false in let all = c.others-seat-end.ensures in omega (arith, end, all)) c.loop-seat.invariant
