use Rattle.evidence.proofs.Digits.{frame_said-long}
use Rattle.evidence.proofs.reading.frame_of.Goals as goal

pub returns-then-digits-gt-LONGEST_LINE : goal.returns-then-digits-gt-LONGEST_LINE
returns-then-digits-gt-LONGEST_LINE c = frame_said-long c.args.line.now c.in_ok-digits.digits.now c.in_ok-digits.ensures c.if-digits-gt-LONGEST_LINE.true
