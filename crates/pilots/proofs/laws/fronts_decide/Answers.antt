use Rattle.pilots.proofs.Decided.{front_decides}
use Rattle.pilots.proofs.laws.fronts_decide.Goals as goal

pub returns : goal.returns
returns c turns text few = front_decides turns text few
