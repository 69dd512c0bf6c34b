use Rattle.make_command.proofs.Ending.{ends_fairly}
use Rattle.make_command.proofs.laws.matches.Goals as goal

pub returns : goal.returns
returns c = ends_fairly
