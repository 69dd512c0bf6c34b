use Rattle.std.proofs.Common.{◌∙◌, sym}
use Rattle.live_deposit.proofs.Heard.{shut_in}
use Rattle.live_deposit.proofs.deposit.Deposit.shut.Goals as goal

pub returns-then-asks_shut : goal.returns-then-asks_shut
returns-then-asks_shut g c = shut_in _ _ _ c.args.self.now c.self.view_is c.requires.ready c.if-self.true (sym c.asks_shut.ensures ∙ c.if-asks_shut.true) c.shut.ensures
