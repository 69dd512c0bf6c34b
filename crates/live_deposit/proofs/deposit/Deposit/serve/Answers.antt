use Rattle.live_deposit.proofs.Served.{serves_all}
use Rattle.live_deposit.proofs.deposit.Deposit.serve.Goals as goal

pub returns : goal.returns
returns g c = serves_all _ _ _ _ _ _ _ c.args.self.now c.clear.new.self c.greet_out.new.self c.give_out.new.self c.give_out.result c.clear.ensures c.greet_out.ensures c.give_out.ensures
