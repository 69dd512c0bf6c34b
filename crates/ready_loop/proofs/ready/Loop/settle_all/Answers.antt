use Rattle.std.proofs.lemmas.Result.{err_from_is_err_and}
use Rattle.ready_loop.proofs.Passing.{settle_fault, settle_first, settle_caught, settle_reads, settle_stops, settle_ends, settles_on}
use Rattle.ready_loop.proofs.ready.Loop.settle_all.Goals as goal

pub returns-in_err-advance : goal.returns-in_err-advance
returns-in_err-advance g c =
    let p = err_from_is_err_and c.from_residual.result c.from_residual.ensures.1 in
    rw (p.1, p.2)
    (settle_fault c.in_err-advance.field-0.0 _ _ _ c.args.self.now c.advance.new.self c.in_err-advance.ensures)

pub stop_if_caught-requires : goal.stop_if_caught-requires
stop_if_caught-requires g c = record { ready = settle_first _ _ _ c.args.self.now c.advance.new.self c.requires.ready c.in_ok-advance.ensures }

pub returns-in_err-stop_if_caught : goal.returns-in_err-stop_if_caught
returns-in_err-stop_if_caught g c =
    let p = err_from_is_err_and c.from_residual-in_err-stop_if_caught.result c.from_residual-in_err-stop_if_caught.ensures.1 in
    rw (p.1, p.2)
    (settle_caught _ c.in_err-stop_if_caught.field-0.0 _ _ _ _ c.args.self.now c.advance.new.self c.stop_if_caught.new.self c.in_ok-advance.ensures c.in_err-stop_if_caught.ensures)

pub loop-dialled-init : goal.loop-dialled-init
loop-dialled-init g c = settle_reads _ _ _ _ _ _ c.args.self.now c.advance.new.self c.stop_if_caught.new.self c.requires.ready c.in_ok-advance.ensures c.in_ok-stop_if_caught.ensures

pub pass-requires : goal.pass-requires
pass-requires g c = record { ready = c.loop-dialled.invariant.ready }

pub returns-in_err-dialled : goal.returns-in_err-dialled
returns-in_err-dialled g c =
    let p = err_from_is_err_and c.from_residual-in_err-dialled.result c.from_residual-in_err-dialled.ensures.1 in
    rw (p.1, p.2)
    (settle_stops c.in_err-dialled.field-0.0 _ _ _ _ _ _ c.args.self.now c.loop-dialled.self c.pass.new.self c.loop-dialled.invariant c.in_err-dialled.ensures)

pub returns-then-not-dialled : goal.returns-then-not-dialled
returns-then-not-dialled g c = settle_ends c.in_ok-dialled.dialled _ _ _ _ _ _ c.args.self.now c.loop-dialled.self c.pass.new.self c.if-not-dialled.true c.loop-dialled.invariant c.in_ok-dialled.ensures

pub loop-dialled-smaller : goal.loop-dialled-smaller
loop-dialled-smaller g c = (settles_on c.in_ok-dialled.dialled _ _ _ _ _ _ c.args.self.now c.loop-dialled.self c.pass.new.self c.if-not-dialled.false c.loop-dialled.invariant c.in_ok-dialled.ensures).1

pub loop-dialled-preserved : goal.loop-dialled-preserved
loop-dialled-preserved g c = (settles_on c.in_ok-dialled.dialled _ _ _ _ _ _ c.args.self.now c.loop-dialled.self c.pass.new.self c.if-not-dialled.false c.loop-dialled.invariant c.in_ok-dialled.ensures).0
