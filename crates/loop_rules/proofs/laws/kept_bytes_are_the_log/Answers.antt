use Rattle.loop_rules.proofs.Kept.{kept_bytes_are_the_log}
use Rattle.loop_rules.proofs.laws.kept_bytes_are_the_log.Goals as goal

pub returns : goal.returns
returns c = kept_bytes_are_the_log
