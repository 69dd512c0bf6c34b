use Rattle.loop_rules.proofs.Computed.{leaves_what_was_synced}
use Rattle.loop_rules.proofs.worked.a_crash.Goals as goal

pub returns : goal.returns
returns c = leaves_what_was_synced
