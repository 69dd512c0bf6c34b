-- Printing: how far a text is written that is printed piece by piece, where memory is taken before
-- a piece.
use Rattle.std.specs.Prelude.{◌≡◌, ℕ, List, Result, Ok, Err}
use Rattle.station.specs.Sinks.{SinkState, after_bytes}
use Rattle.line_io.specs.Texts.{CutShort}
use Rattle.run_frame.specs.declared.statuses.Status.{Status}
use Rattle.run_frame.specs.declared.statuses.Status.TheVariants.{NoMemory, OutputFault}
use Rattle.file_commands.specs.AuditPrinting.{IsBegun}

-- all of the text was written, or memory was wanting after a front of it, or the sink failed in it
abbrev pub Prints : (before now : SinkState) → List ℕ → Result (Unit {0}) Status → Type 0
Prints before now text (Ok done) = now ≡ after_bytes before text
Prints before now text (Err NoMemory) = IsBegun before now text
Prints before now text (Err OutputFault) = CutShort before now text
Prints before now text (Err status) = ⊥
