use Rattle.live_deposit.proofs.Written.{greet_first, greet_on}
use Rattle.live_deposit.proofs.deposit.Deposit.greet_out.Goals as goal

pub loop-self-init : goal.loop-self-init
loop-self-init g c = greet_first _ c.args.self.now c.requires.ready c.requires.read

pub loop-self-preserved : goal.loop-self-preserved
loop-self-preserved g c = greet_on _ _ _ c.args.self.now c.loop-self.self c.greet.new.self c.loop-self.invariant c.greet.ensures
