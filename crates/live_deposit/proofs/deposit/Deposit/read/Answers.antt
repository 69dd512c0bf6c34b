use Rattle.live_deposit.proofs.Heard.{read_in}
use Rattle.live_deposit.proofs.deposit.Deposit.read.Goals as goal

pub returns : goal.returns
returns g c =
    read_in _ _ _ c.args.self.now c.read-read.result c.min-most.result c.room.result c.read-read.new.buf _ c.self.inside.buffer c.put_read.new.line c.self.view_is c.requires.ready c.requires.wants c.min-most.ensures c.room.ensures c.read-read.auto.buf c.self.told.1 c.read-read.ensures.after c.read-read.ensures.within c.put_read.ensures.line c.put_read.ensures.place
