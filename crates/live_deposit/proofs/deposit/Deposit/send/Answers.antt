use Rattle.std.proofs.Common.{◌≡◌, ◌+◌, ◌-◌, arith, refl}
use Rattle.live_deposit.proofs.Polled.{send_ends, send_first, send_on}
use Rattle.live_deposit.proofs.deposit.Deposit.send.Goals as goal

pub rounds-init : goal.rounds-init
rounds-init g c = send_first _ c.args.polls _ _ c.args.self.now c.requires.ready

pub returns-in-Some : goal.returns-in-Some
returns-in-Some g c = send_ends _ c.args.polls c.rounds.left _ _ _ _ _ _ c.args.self.now c.rounds.self c.round.new.self c.in-Some.end c.rounds.invariant c.in-Some.ensures

pub rounds-preserved : goal.rounds-preserved
rounds-preserved g c =
    send_on _ c.args.polls c.rounds.left (c.rounds.left - 1) _ _ _ _ _ _ c.args.self.now c.rounds.self c.round.new.self c.rounds.invariant c.in_default.ensures
    (let some = (c.in_default.ensures.on refl).1 in let e : c.rounds.left - 1 + 1 ≡ c.rounds.left = omega (arith, some) in e)
