use Rattle.live_deposit.proofs.Settled.{settle_dialled, settle_still}
use Rattle.live_deposit.proofs.deposit.Deposit.settle.Goals as goal

pub returns-then-not-may_dial : goal.returns-then-not-may_dial
returns-then-not-may_dial g c = settle_still _ _ _ _ _ c.args.self.now c.serve.new.self c.may_dial.result c.in-Idle.ensures c.may_dial.ensures c.if-not-may_dial.true

pub returns-else-not-may_dial : goal.returns-else-not-may_dial
returns-else-not-may_dial g c = settle_dialled _ _ _ _ _ _ _ _ c.args.self.now c.serve.new.self c.dial.new.self c.serve-in-Idle.new.self c.serve-in-Idle.result c.in-Idle.ensures c.dial.ensures c.serve-in-Idle.ensures
