use Rattle.socket_station.proofs.Histories.{closed-stays, opened-by}
use Rattle.socket_station.proofs.laws.numbers_are_used_once.Goals as goal

pub returns-clause-closed : goal.returns-clause-closed
returns-clause-closed c items item n e new = closed-stays items item n e new

pub returns-clause-open : goal.returns-clause-open
returns-clause-open c items item n e = opened-by items item n e
