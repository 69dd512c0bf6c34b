use Rattle.std.proofs.Common.{◌≡◌, ◌+◌, ◌-◌, true, false, refl, arith}
use Rattle.ready_loop.specs.declared.settling.Settled.TheVariants as S
use Rattle.ready_loop.specs.declared.polling.Round.TheVariants as R
use Rattle.loop_ends.specs.declared.ends.Ended.TheVariants as E
use Rattle.ready_loop.proofs.Runs.{poll_licensed, rounds_fault, rounds_on, runs_first, runs_on, run_stops, run_stopped, run_ends}
use Rattle.ready_loop.proofs.ready.Loop.play.Goals as goal

pub loop-left-init : goal.loop-left-init
loop-left-init g c = runs_first _ c.args.polls _ c.args.self.now c.requires.ready

pub settle_all-requires : goal.settle_all-requires
settle_all-requires g c = record { ready = c.loop-left.invariant.ready }

pub returns-in-Err : goal.returns-in-Err
returns-in-Err g c = run_stopped _ _ _ c.args.polls c.loop-left.left c.in-Err.stop c.ended_at.result _ _ _ c.args.self.now c.loop-left.self c.settle_all.new.self c.loop-left.invariant c.in-Err.ensures c.ended_at.ensures

pub poll-requires : goal.poll-requires
poll-requires g c = record { licensed = poll_licensed _ _ S.Idle true _ _ c.loop-left.self c.settle_all.new.self c.in_default.ensures refl refl }

pub returns-then-not-poll : goal.returns-then-not-poll
returns-then-not-poll g c =
    run_stops _ _ _ c.args.polls c.loop-left.left R.PollFault E.PollFault false _ _ _ c.args.self.now c.loop-left.self c.poll.new.self c.loop-left.invariant
    (rounds_fault _ _ S.Idle true c.poll.result _ _ _ c.loop-left.self c.settle_all.new.self c.poll.new.self c.in_default.ensures refl refl c.poll.ensures c.if-not-poll.true) refl refl refl

pub loop-left-preserved : goal.loop-left-preserved
loop-left-preserved g c =
    runs_on _ _ _ c.args.polls c.loop-left.left (c.loop-left.left - 1) R.On true _ _ _ c.args.self.now c.loop-left.self c.poll.new.self c.loop-left.invariant
    (rounds_on _ _ S.Idle true c.poll.result _ _ _ c.loop-left.self c.settle_all.new.self c.poll.new.self c.in_default.ensures refl refl c.poll.ensures c.if-not-poll.false) refl refl
    (let some = c.loop-left-test.true in let e : c.loop-left.left - 1 + 1 ≡ c.loop-left.left = omega (arith, some) in e)

pub settle_all-requires-2 : goal.settle_all-requires-2
settle_all-requires-2 g c = record { ready = c.loop-left.invariant.ready }

pub returns-in-Ok : goal.returns-in-Ok
returns-in-Ok g c =
    run_ends _ _ _ c.args.polls c.loop-left.left S.Idle E.GaveUp _ _ _ c.args.self.now c.loop-left.self c.settle_all-2.new.self c.loop-left.invariant (let end = c.loop-left-test.false in omega (arith, end)) c.in-Ok.ensures refl

pub returns-in-Err-settle_all : goal.returns-in-Err-settle_all
returns-in-Err-settle_all g c = run_stopped _ _ _ c.args.polls c.loop-left.left c.in-Err-settle_all.stop c.ended_at-in-Err-settle_all.result _ _ _ c.args.self.now c.loop-left.self c.settle_all-2.new.self c.loop-left.invariant c.in-Err-settle_all.ensures c.ended_at-in-Err-settle_all.ensures
