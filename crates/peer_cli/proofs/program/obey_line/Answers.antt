use Rattle.peer_runs.proofs.Unasked.{unasked}
use Rattle.peer_cli.proofs.program.obey_line.Goals as goal

pub returns-in-None : goal.returns-in-None
returns-in-None g c = rw (← c.in-None.ensures) (unasked _)

pub returns-in-Some : goal.returns-in-Some
returns-in-Some g c = rw (← c.in-Some.ensures) c.obey.ensures
