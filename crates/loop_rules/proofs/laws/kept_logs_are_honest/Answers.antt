use Rattle.loop_rules.proofs.Fair.{kept_is_honest, reveals_kept_stand_behind}
use Rattle.loop_rules.proofs.laws.kept_logs_are_honest.Goals as goal

pub returns-clause-honest : goal.returns-clause-honest
returns-clause-honest c = kept_is_honest

pub returns-clause-reveals : goal.returns-clause-reveals
returns-clause-reveals c = reveals_kept_stand_behind
