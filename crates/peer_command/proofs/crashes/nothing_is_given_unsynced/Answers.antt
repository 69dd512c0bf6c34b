use Rattle.peer_command.proofs.Given.{nothing_is_given_unsynced}
use Rattle.peer_command.proofs.crashes.nothing_is_given_unsynced.Goals as goal

pub returns : goal.returns
returns c = nothing_is_given_unsynced
