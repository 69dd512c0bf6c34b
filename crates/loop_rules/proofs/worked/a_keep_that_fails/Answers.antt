use Rattle.loop_rules.proofs.Computed.{ends_at_a_failed_keep}
use Rattle.loop_rules.proofs.worked.a_keep_that_fails.Goals as goal

pub returns : goal.returns
returns c = ends_at_a_failed_keep
