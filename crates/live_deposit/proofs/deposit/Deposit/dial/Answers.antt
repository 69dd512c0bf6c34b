use Rattle.live_deposit.proofs.Heard.{dialled_in, undialled_in}
use Rattle.live_deposit.proofs.deposit.Deposit.dial.Goals as goal

pub returns-in-Socket : goal.returns-in-Socket
returns-in-Socket g c =
    dialled_in _ _ _ c.args.self.now c.in-Socket.socket c.dialled-self-inside.result c.self.view_is c.requires.ready c.requires.may c.in-Socket.ensures.fresh c.in-Socket.ensures.after c.dialled-self-inside.ensures

pub returns-in-Failed : goal.returns-in-Failed
returns-in-Failed g c = undialled_in _ _ _ c.args.self.now c.self.view_is c.requires.ready c.requires.may c.in-Failed.ensures.after
