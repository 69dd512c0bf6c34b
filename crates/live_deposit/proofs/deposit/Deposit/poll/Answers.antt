use Rattle.live_deposit.proofs.Polled.{done_in, failed_in}
use Rattle.live_deposit.proofs.deposit.Deposit.poll.Goals as goal

pub returns-in-Done : goal.returns-in-Done
returns-in-Done g c =
    done_in _ _ _ c.args.self.now c.poll.new.ready c.as_slice.result.now c.heed_all.new.line c.self.view_is c.requires.ready c.in-Done.ensures.fresh c.in-Done.ensures.after c.as_slice.ensures.items c.heed_all.ensures

pub returns-in-Failed : goal.returns-in-Failed
returns-in-Failed g c = failed_in _ _ _ c.args.self.now c.self.view_is c.requires.ready c.in-Failed.ensures.after
