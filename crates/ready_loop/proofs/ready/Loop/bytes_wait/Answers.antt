use Rattle.std.proofs.Common.{refl, arith}
use Rattle.ready_loop.proofs.Waits.{waits_here, waits_behind, waits_none}
use Rattle.ready_loop.proofs.ready.Loop.bytes_wait.Goals as goal

pub loop-place-init : goal.loop-place-init
loop-place-init c = refl

pub returns-then-has_bytes : goal.returns-then-has_bytes
returns-then-has_bytes c =
    waits_here _ c.args.self.now.table c.loop-place.place c.has_bytes.result (let lt = c.loop-place-test.true in let all = c.count-place-end.ensures in omega (arith, lt, all)) c.has_bytes.ensures c.loop-place.invariant c.if-has_bytes.true

pub loop-place-preserved : goal.loop-place-preserved
loop-place-preserved c =
    waits_behind _ c.args.self.now.table c.loop-place.place c.has_bytes.result (let lt = c.loop-place-test.true in let all = c.count-place-end.ensures in omega (arith, lt, all)) c.has_bytes.ensures c.loop-place.invariant c.if-has_bytes.false

pub returns : goal.returns
returns c = waits_none _ c.args.self.now.table c.loop-place.place c.lacks.result (let end = c.loop-place-test.false in let all = c.count-place-end.ensures in omega (arith, end, all)) c.loop-place.invariant c.lacks.ensures
