use Rattle.peer_command.proofs.Survived.{crashes_are_survived}
use Rattle.peer_command.proofs.crashes.crashes_are_survived.Goals as goal

pub returns : goal.returns
returns c = crashes_are_survived
