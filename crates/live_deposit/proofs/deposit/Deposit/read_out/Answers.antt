use Rattle.live_deposit.proofs.Heard.{out_first, out_on}
use Rattle.live_deposit.proofs.deposit.Deposit.read_out.Goals as goal

pub loop-self-init : goal.loop-self-init
loop-self-init g c = out_first _ c.args.self.now c.requires.ready

pub loop-self-preserved : goal.loop-self-preserved
loop-self-preserved g c = out_on _ _ _ c.args.self.now c.loop-self.self c.read.new.self c.loop-self.invariant c.read.ensures
