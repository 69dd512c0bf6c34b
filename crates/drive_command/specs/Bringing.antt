-- Bringing: what was written about a part of a line's bytes.
use Rattle.std.specs.Prelude.{ℕ, List, drop, Option, Some, None, Result, Ok, Err}
use Rattle.station.specs.Sinks.{SinkState}
use Rattle.run_frame.specs.Frame.{Answer, Onward}
use Rattle.line_io.specs.Texts.{CutShort}
use Rattle.line_io.specs.declared.texts.SinkFault.{SinkFault}
use Rattle.line_io.specs.Inputs.{Input}
use Rattle.drive_command.specs.Driven.{Driven}
use Rattle.drive_command.specs.Outcomes.{driven_from, bytes_from}

-- What is still due is so with the rest of the bytes or without it; or the sink failed in what was due.
abbrev pub BringsPart : (before now : SinkState) → (due : Answer) → Driven → ℕ → List ℕ → Input → Result (Option ℕ) SinkFault → Type 0
BringsPart before now due d q bytes input (Ok (Some used)) = Onward before now due (bytes_from d q (drop used bytes) input)
BringsPart before now due d q bytes input (Ok None) = Onward before now due (driven_from d input)
BringsPart before now due d q bytes input (Err fault) = CutShort before now due.body

-- P of the bytes used, where more are to be read
abbrev pub OnMore : Result (Option ℕ) SinkFault → (ℕ → Type 0) → Type 0
OnMore (Ok (Some used)) P = P used
OnMore (Ok None) P = Unit {0}
OnMore (Err fault) P = Unit {0}
