use Rattle.definition_laws.proofs.Replied as R
use Rattle.definition_laws.proofs.steps.replies.Goals as goal

pub returns : goal.returns
returns c = R.replies
