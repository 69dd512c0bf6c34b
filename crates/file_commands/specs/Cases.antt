-- Cases: a session and an exhibit, as contracts see them.
use Rattle.std.specs.Prelude.{Result, Ok, Err}
use Rattle.definitions.specs.World.{Game}
use Rattle.run_frame.specs.declared.statuses.Status.{Status}
use Rattle.evidence.specs.declared.exhibit.Exhibit.{Exhibit}
use Rattle.file_commands.specs.declared.exhibits.Case.{Case}

-- the two that were read, or how the run ends without them
abbrev pub case_seen : Result Case Status → Result (Game × Exhibit) Status
case_seen (Ok case) = Ok (case.session, case.exhibit)
case_seen (Err status) = Err status
