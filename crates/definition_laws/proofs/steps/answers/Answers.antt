use Rattle.definition_laws.proofs.Answering.{far_is_past, joins_as_answered, same_is_there, taken_or_stashed}
use Rattle.definition_laws.proofs.Taken.{taken_is_caught}
use Rattle.definition_laws.proofs.steps.answers.Goals as goal

pub returns-clause-far : goal.returns-clause-far
returns-clause-far c = far_is_past

pub returns-clause-same : goal.returns-clause-same
returns-clause-same c = same_is_there

pub returns-clause-new : goal.returns-clause-new
returns-clause-new c = taken_or_stashed

pub returns-clause-caught : goal.returns-clause-caught
returns-clause-caught c = taken_is_caught

pub returns-clause-joins : goal.returns-clause-joins
returns-clause-joins c = joins_as_answered
