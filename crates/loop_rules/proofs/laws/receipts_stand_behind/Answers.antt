use Rattle.loop_rules.proofs.Received.{receipts_stand_behind}
use Rattle.loop_rules.proofs.laws.receipts_stand_behind.Goals as goal

pub returns : goal.returns
returns c = receipts_stand_behind
