use Rattle.std.proofs.Common.{true, refl}
use Rattle.ready_loop.specs.declared.settling.Settled.TheVariants as S
use Rattle.ready_loop.proofs.Runs.{rounds_stopped, poll_licensed, rounds_fault, rounds_on}
use Rattle.ready_loop.proofs.ready.Loop.round.Goals as goal

pub returns-in-Err : goal.returns-in-Err
returns-in-Err g c = rounds_stopped _ _ c.in-Err.stop c.round_at.result _ _ c.args.self.now c.settle_all.new.self c.in-Err.ensures c.round_at.ensures

pub poll-requires : goal.poll-requires
poll-requires g c = record { licensed = poll_licensed _ _ S.Idle true _ _ c.args.self.now c.settle_all.new.self c.in_default.ensures refl refl }

pub returns-then-not-poll : goal.returns-then-not-poll
returns-then-not-poll g c = rounds_fault _ _ S.Idle true c.poll.result _ _ _ c.args.self.now c.settle_all.new.self c.poll.new.self c.in_default.ensures refl refl c.poll.ensures c.if-not-poll.true

pub returns : goal.returns
returns g c = rounds_on _ _ S.Idle true c.poll.result _ _ _ c.args.self.now c.settle_all.new.self c.poll.new.self c.in_default.ensures refl refl c.poll.ensures c.if-not-poll.false
