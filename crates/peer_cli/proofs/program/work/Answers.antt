use Rattle.std.proofs.Common.{◌≡◌, true, false, Option, None, Some}
use Rattle.std.specs.Prelude.{is_some}
use Rattle.run_frame.specs.Outside.{Outside}
use Rattle.run_frame.specs.Runs.{Works}
use Rattle.run_frame.specs.declared.statuses.Status.TheVariants.{NoMemory, Usage}
use Rattle.peer_runs.specs.Commands.{Command, law_of}
use Rattle.peer_runs.proofs.Laws.{no_memory}
use Rattle.peer_runs.proofs.Unasked.{unasked}
use Rattle.peer_cli.proofs.Splitting.{command_by_line}
use Rattle.peer_cli.proofs.program.work.Goals as goal

-- words that are no command
no_command : (o : Option Command) (outside : Outside) → is_some o ≡ false → Works (law_of o) outside outside Usage
no_command None outside e = unasked outside
no_command (Some c) outside e = absurd (let never : true ≡ false = e in cc)

-- words that are one, and no memory
a_command : (o : Option Command) (outside : Outside) → is_some o ≡ true → Works (law_of o) outside outside NoMemory
a_command None outside e = absurd (let never : false ≡ true = e in cc)
a_command (Some c) outside e = no_memory c outside

pub returns-then-not-is_command : goal.returns-then-not-is_command
returns-then-not-is_command g c = no_command _ _ (cc)

pub returns-in-Err : goal.returns-in-Err
returns-in-Err g c = a_command _ _ (cc)

pub returns-in-Ok : goal.returns-in-Ok
returns-in-Ok g c = rw (command_by_line _, ← c.in-Ok.ensures) c.obey_line.ensures
