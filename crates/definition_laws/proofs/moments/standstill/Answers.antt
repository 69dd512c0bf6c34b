use Rattle.definition_laws.proofs.Groups.{all_counts, needed_is_behind, none_is_stuck}
use Rattle.definition_laws.proofs.moments.standstill.Goals as goal

pub returns-clause-behind : goal.returns-clause-behind
returns-clause-behind c game me h n d i m = (needed_is_behind game me h n d i m).1

pub returns-clause-counts : goal.returns-clause-counts
returns-clause-counts c = all_counts

pub returns-clause-group : goal.returns-clause-group
returns-clause-group c = none_is_stuck
