-- A loop over the lines of an input, turn by turn.
use Rattle.std.specs.Prelude.{◌≡◌, ℕ, true, false, List, ◌++◌, Result, Ok, Err}
use Rattle.station.specs.Since.{since}
use Rattle.station.specs.Sinks.{SinkState}
use Rattle.station.specs.Sources.{SourceState}
use Rattle.run_frame.specs.Frame.{Answer, Onward, Ends, OnDone, is_input_fault}
use Rattle.line_io.specs.Inputs.{Input, Ending, AtEnd, AtFault, MayFollow, input_of}
use Rattle.line_io.specs.Readings.{Drew}
use Rattle.run_frame.specs.declared.statuses.Status.{Status}
use Rattle.run_frame.specs.declared.statuses.Status.TheVariants.{InputFault}

-- the input of a run that ended with this status, where it read these bytes and `rest` stands behind them
abbrev pub input_by : Status → (read rest : List ℕ) → Input
input_by InputFault read rest = input_of AtFault read
input_by status read rest = input_of AtEnd (read ++ rest)

-- A turn that reads nothing: the loop goes on with what is still due, or has ended.
abbrev pub Turns : (before now : SinkState) → (due rest : Answer) → Result (Unit {0}) Status → Type 0
Turns before now due rest (Ok done) = Onward before now due rest
Turns before now due rest (Err status) = Ends before now due status

-- A loop reads on and goes on. `due` is what was due before, `rest` what is due now, each by the input that the reader held or
-- holds and what comes behind it: whatever stands behind the bytes read, and whether the source fails behind them.
pub record PlaysOn (source source' : SourceState) (sink sink' : SinkState) (due rest : Input → Answer) (held held' : List ℕ) : Type 0 where
  pub drew : Drew source source' false
  pub onward : (ending : Ending) (behind : List ℕ) →
      Onward sink sink' (due (input_of ending ((held ++ since source.seen source'.seen) ++ behind))) (rest (input_of ending (held' ++ behind)))

-- A loop reads on and ends with this status: as is due for what the reader held and what was read, whatever stands behind it. A
-- fault of the source is counted exactly where it is answered, and at the end of the command the source answered its end.
pub record Plays (source source' : SourceState) (sink sink' : SinkState) (due : Input → Answer) (held : List ℕ) (status : Status) : Type 0 where
  pub drew : Drew source source' (is_input_fault status)
  pub ends : (behind : List ℕ) → MayFollow source'.ended behind →
      Ends sink sink' (due (input_by status (held ++ since source.seen source'.seen) behind)) status
  pub over : OnDone status (source'.ended ≡ true)

-- A turn: the loop goes on or has ended.
abbrev pub PlaysTurn : (source source' : SourceState) → (sink sink' : SinkState) → (due rest : Input → Answer) → (held held' : List ℕ) → Result (Unit {0}) Status → Type 0
PlaysTurn source source' sink sink' due rest held held' (Ok done) = PlaysOn source source' sink sink' due rest held held'
PlaysTurn source source' sink sink' due rest held held' (Err status) = Plays source source' sink sink' due held status
