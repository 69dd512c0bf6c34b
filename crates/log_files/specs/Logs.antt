-- Logs: what bytes are as a log of a session, and what is answered of them.
use Rattle.std.specs.Prelude.{ℕ, List, Option, None, Some, Result, Ok, Err, length, nat_lt, if◌then◌else◌}
use Rattle.definitions.specs.declared.limits.TheConstants.{LONGEST_LOG}
use Rattle.definitions.specs.declared.logs.LogWhy.TheVariants.{TooLong}
use Rattle.definitions.specs.World.{Game}
use Rattle.session_log.specs.declared.faults.LogFault.{LogFault}
use Rattle.session_log.specs.Reading.{Ending, fault_at, read_log}
use Rattle.log_files.specs.declared.faults.FileFault.{FileFault}
use Rattle.log_files.specs.declared.faults.FileFault.TheVariants as file
use Rattle.log_files.specs.declared.taking.LogTaken.{LogTaken}
use Rattle.log_files.specs.declared.taking.LogTaken.TheVariants.{Whole, Bad, Failed, Memory}

-- the fault with which a log ends, if it does
abbrev pub fault_of : Ending → Option LogFault
fault_of (Ok whole) = None
fault_of (Err fault) = Some fault

-- the same of how a log ended, once it has
abbrev pub fault_said : Option Ending → Option LogFault
fault_said None = None
fault_said (Some end) = fault_of end

-- the first fault of the bytes, if they have one: that they are too many, or else the one that a reader of them all names
abbrev pub log_fault : Game → List ℕ → Option LogFault
log_fault game bytes = if nat_lt LONGEST_LOG (length bytes) then Some (fault_at LONGEST_LOG TooLong) else fault_said (read_log game bytes).reader.said

-- the answer for a log with this fault, or with none
abbrev pub taken_by : Option LogFault → LogTaken
taken_by None = Whole
taken_by (Some fault) = Bad fault.at fault.why

-- the answer where a file was taken whole, or not
abbrev pub taken_of : Result (Unit {0}) FileFault → LogTaken
taken_of (Ok whole) = Whole
taken_of (Err (file.Bad fault)) = Bad fault.at fault.why
taken_of (Err file.Failed) = Failed
taken_of (Err file.Memory) = Memory
