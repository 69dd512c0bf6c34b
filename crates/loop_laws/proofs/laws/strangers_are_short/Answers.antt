use Rattle.loop_laws.proofs.Strangers.{strangers_are_short}
use Rattle.loop_laws.proofs.laws.strangers_are_short.Goals as goal

pub returns : goal.returns
returns c = strangers_are_short
