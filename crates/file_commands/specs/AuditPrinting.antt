-- Printing: how far a text is written that is printed piece by piece, where memory is taken before a piece.
use Rattle.std.specs.Prelude.{◌≡◌, ℕ, List, Result, Ok, Err}
use Rattle.station.specs.Sinks.{SinkState, after_bytes}
use Rattle.line_io.specs.Texts.{CutShort, Underway}
use Rattle.run_frame.specs.declared.statuses.Status.{Status}
use Rattle.run_frame.specs.declared.statuses.Status.TheVariants as status
use Rattle.file_commands.specs.declared.audit_printing.PrintFault.{PrintFault}
use Rattle.file_commands.specs.declared.audit_printing.PrintFault.TheVariants.{NoMemory, Output}

-- a front of the text was written, and no fault came: some rest of it is still to come
abbrev pub IsBegun : (before now : SinkState) → List ℕ → Type 0
IsBegun before now text = (rest : List ℕ) × Underway before now text rest

-- all of the text was written, or the sink failed in it, or memory was wanting after a front of it
abbrev pub Prints : (before now : SinkState) → List ℕ → Result (Unit {0}) PrintFault → Type 0
Prints before now text (Ok done) = now ≡ after_bytes before text
Prints before now text (Err NoMemory) = IsBegun before now text
Prints before now text (Err Output) = CutShort before now text

-- the status of a run whose text was not printed to its end
abbrev pub status_of_print : PrintFault → Status
status_of_print NoMemory = status.NoMemory
status_of_print Output = status.OutputFault
