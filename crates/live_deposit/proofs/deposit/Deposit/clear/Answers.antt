use Rattle.live_deposit.proofs.Heard.{clears_then}
use Rattle.live_deposit.proofs.deposit.Deposit.clear.Goals as goal

pub returns : goal.returns
returns g c = clears_then _ _ _ c.args.self.now c.read_out.new.self c.shut.new.self c.read_out.ensures c.shut.ensures
