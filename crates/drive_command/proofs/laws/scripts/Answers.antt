use Rattle.drive_command.proofs.Ends.{drive_status}
use Rattle.drive_command.proofs.Fair.{drive_fair}
use Rattle.drive_command.proofs.Runs.{drive_runs}
use Rattle.drive_command.proofs.Streams.{gives_next}
use Rattle.drive_command.proofs.Tellings.{drive_tells}
use Rattle.drive_command.proofs.laws.scripts.Goals as goal

pub returns-clause-decide : goal.returns-clause-decide
returns-clause-decide c = drive_status

pub returns-clause-fair : goal.returns-clause-fair
returns-clause-fair c = drive_fair

pub returns-clause-tell : goal.returns-clause-tell
returns-clause-tell c = drive_tells

pub returns-clause-streams : goal.returns-clause-streams
returns-clause-streams c = gives_next

pub returns-clause-runs : goal.returns-clause-runs
returns-clause-runs c = drive_runs
