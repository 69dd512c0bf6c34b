use Rattle.peer_cli.proofs.program.run.Goals as goal

pub returns : goal.returns
returns g c = c.work-status.ensures _ c.refuse.result c.refuse.ensures
