use Rattle.live_deposit.proofs.Written.{greet_in, hello_put}
use Rattle.live_deposit.proofs.deposit.Deposit.greet.Goals as goal

pub put_greeting-requires : goal.put_greeting-requires
put_greeting-requires g c = hello_put _ c.args.self.now c.write-write.result c.bytes.result.now c.self.view_is c.requires.owes c.bytes.ensures.bytes c.write-write.ensures.within

pub returns : goal.returns
returns g c =
    greet_in _ _ _ c.args.self.now c.write-write.result c.bytes.result.now c.put_greeting.new.line c.self.view_is c.requires.ready c.requires.read c.requires.owes c.bytes.ensures.bytes c.write-write.ensures.within c.write-write.ensures.after c.put_greeting.ensures
