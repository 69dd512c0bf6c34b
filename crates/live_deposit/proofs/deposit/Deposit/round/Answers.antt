use Rattle.std.proofs.Common.{arith}
use Rattle.live_deposit.proofs.Polled.{round_fault, round_gave_up, round_on, round_sent}
use Rattle.live_deposit.proofs.deposit.Deposit.round.Goals as goal

pub returns-in-Sent : goal.returns-in-Sent
returns-in-Sent g c = round_sent _ c.args.left _ _ _ _ c.args.self.now c.settle.new.self c.in-Sent.ensures

pub returns-then-left-eq0 : goal.returns-then-left-eq0
returns-then-left-eq0 g c = round_gave_up _ c.args.left _ _ _ _ c.args.self.now c.settle.new.self c.in-Idle.ensures c.if-left-eq0.true

pub returns-then-poll : goal.returns-then-poll
returns-then-poll g c = round_on _ c.args.left _ _ _ _ _ c.args.self.now c.settle.new.self c.poll.new.self c.in-Idle.ensures c.if-poll.ensures (let n = c.if-left-eq0.false in omega (arith, n))

pub returns-else-poll : goal.returns-else-poll
returns-else-poll g c = round_fault _ c.args.left _ _ _ _ _ c.args.self.now c.settle.new.self c.poll.new.self c.in-Idle.ensures c.if-poll.ensures
