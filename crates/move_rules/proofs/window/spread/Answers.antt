use Rattle.move_rules.proofs.WindowBits.{set_near}
use Rattle.move_rules.proofs.window.spread.Goals as goal

pub returns : goal.returns
returns c = set_near c.args.word
