-- Faults: the status that tells of a fault of what lies below.
use Rattle.std.specs.Prelude.{Result, Ok, Err}
use Rattle.line_io.specs.declared.fronts.FrontFault.{FrontFault}
use Rattle.line_io.specs.declared.fronts.FrontFault.TheVariants as front
use Rattle.text_fields.specs.declared.fault.TextFault.{TextFault}
use Rattle.text_fields.specs.declared.fault.TextFault.TheVariants.{At, Memory}
use Rattle.run_frame.specs.declared.statuses.Status.{Status}
use Rattle.run_frame.specs.declared.statuses.Status.TheVariants.{NoMemory, InputFault, BadLine}
use Rattle.run_frame.specs.declared.statuses.TextName.{TextName}

-- of a file's front that was not read
abbrev pub status_of_front : FrontFault → Status
status_of_front front.NoMemory = NoMemory
status_of_front front.Failed = InputFault

-- of a text that is read line by line
abbrev pub status_of_text : TextName → TextFault → Status
status_of_text text (At line) = BadLine text line
status_of_text text Memory = NoMemory

-- what is read of such a text, or the status with which a run ends by its fault
abbrev pub read_by : {T : Type 0} → TextName → Result T TextFault → Result T Status
read_by text (Ok x) = Ok x
read_by text (Err fault) = Err (status_of_text text fault)
