use Rattle.rosters.proofs.Short.{roster_short}
use Rattle.rosters.proofs.laws.rosters_fit.Goals as goal

pub returns : goal.returns
returns c me players r text few from = roster_short me players r text few from
