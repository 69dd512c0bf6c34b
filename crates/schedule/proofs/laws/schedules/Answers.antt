use Rattle.schedule.proofs.Holding.{schedules_hold}
use Rattle.schedule.proofs.laws.schedules.Goals as goal

pub returns : goal.returns
returns c = schedules_hold
