use Rattle.std.proofs.Common.{length}
use Rattle.log_files.proofs.audits.+take_texts.Given as goal

abbrev pub decreases-take_texts : goal.decreases-take_texts
decreases-take_texts l = length l.logs.now
