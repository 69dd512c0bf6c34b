use Rattle.std.proofs.Common.{◌≡◌, ◌+◌, ◌-◌, arith}
use Rattle.datagram_loop.proofs.Played.{runs_first, idle_settles, idle_running, runs_on, run_unpolled, run_stops, run_ends, ended_by}
use Rattle.datagram_loop.proofs.looping.PostLoop.play.Goals as goal

pub loop-left-init : goal.loop-left-init
loop-left-init g c = runs_first _ c.args.polls _ c.args.self.now c.requires.ready

pub settle-settled-requires : goal.settle-settled-requires
settle-settled-requires g c = record { ready = c.loop-left.invariant.ready }

pub returns-then-not-is_idle : goal.returns-then-not-is_idle
returns-then-not-is_idle g c =
    ended_by _ _ c.args.polls c.settle-settled.result c.ended_of.result _ _ c.args.self.now c.settle-settled.new.self
    (run_stops _ _ _ c.args.polls c.loop-left.left c.settle-settled.result c.is_idle.result _ _ _ c.args.self.now c.loop-left.self c.settle-settled.new.self c.loop-left.invariant c.settle-settled.ensures c.is_idle.ensures c.if-not-is_idle.true) c.ended_of.ensures

pub poll-requires : goal.poll-requires
poll-requires g c = record { running = idle_running _ _ _ _ c.loop-left.self c.settle-settled.new.self (idle_settles _ _ c.settle-settled.result c.is_idle.result _ _ c.loop-left.self c.settle-settled.new.self c.settle-settled.ensures c.is_idle.ensures c.if-not-is_idle.false) }

pub returns-then-not-poll : goal.returns-then-not-poll
returns-then-not-poll g c =
    run_unpolled _ _ _ c.args.polls c.loop-left.left c.poll.result _ _ _ _ c.args.self.now c.loop-left.self c.settle-settled.new.self c.poll.new.self c.loop-left.invariant
    (idle_settles _ _ c.settle-settled.result c.is_idle.result _ _ c.loop-left.self c.settle-settled.new.self c.settle-settled.ensures c.is_idle.ensures c.if-not-is_idle.false)
    c.poll.ensures.told c.poll.ensures.after c.if-not-poll.true

pub loop-left-preserved : goal.loop-left-preserved
loop-left-preserved g c =
    runs_on _ _ _ c.args.polls c.loop-left.left (c.loop-left.left - 1) c.poll.result _ _ _ _ c.args.self.now c.loop-left.self c.settle-settled.new.self c.poll.new.self c.loop-left.invariant
    (let some = c.loop-left-test.true in let e : c.loop-left.left - 1 + 1 ≡ c.loop-left.left = omega (arith, some) in e)
    (idle_settles _ _ c.settle-settled.result c.is_idle.result _ _ c.loop-left.self c.settle-settled.new.self c.settle-settled.ensures c.is_idle.ensures c.if-not-is_idle.false)
    c.poll.ensures.told c.poll.ensures.after c.if-not-poll.false

pub returns : goal.returns
returns g c =
    ended_by _ _ c.args.polls c.settle-settled-2.result c.ended_of-2.result _ _ c.args.self.now c.settle-settled-2.new.self
    (run_ends _ _ _ c.args.polls c.loop-left.left c.settle-settled-2.result _ _ _ c.args.self.now c.loop-left.self c.settle-settled-2.new.self c.loop-left.invariant (let end = c.loop-left-test.false in omega (arith, end)) c.settle-settled-2.ensures) c.ended_of-2.ensures
