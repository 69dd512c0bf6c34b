use Rattle.peer_cli.proofs.InMemory.{ran_in_memory}
use Rattle.peer_cli.proofs.memory.run_in_memory.Goals as goal

pub returns : goal.returns
returns g c = ran_in_memory _ _ _ _ _ _ _ _ _ _ _ _ _ c.run.result c.run.ensures
