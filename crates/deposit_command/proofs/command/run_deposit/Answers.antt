use Rattle.deposit_command.specs.Words.{depositing_said}
use Rattle.deposit_command.proofs.OverStation.{a_source, no_source}
use Rattle.deposit_command.proofs.command.run_deposit.Goals as goal

pub returns-in-Err : goal.returns-in-Err
returns-in-Err g c = λ rest.
    no_source (depositing_said c.args.words) rest _ _ _ _ c.in-Err.status c.in-Err.ensures

pub returns-in-Ok : goal.returns-in-Ok
returns-in-Ok g c = λ rest.
    a_source (depositing_said c.args.words) rest _ _ _ _ _ _ _ c.in-Ok.source c.in-Ok.ensures
    c.deposit.result c.deposit.ensures
