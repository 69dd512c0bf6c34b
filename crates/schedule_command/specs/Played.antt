-- Played: what was read and written of a schedule.
use Rattle.std.specs.Prelude.{◌≡◌, ◌<◌, ◌≤◌, ◌+◌, ℕ, Bool, true, false, List, Option, Some, None, Result, Ok, Err}
use Rattle.station.specs.Sinks.{SinkState}
use Rattle.station.specs.Sources.{SourceState}
use Rattle.definitions.specs.declared.limits.TheConstants.{MOST_LINES}
use Rattle.definitions.specs.World.{Game}
use Rattle.line_io.specs.Inputs.{End, Input}
use Rattle.line_io.specs.Readings.{Drew}
use Rattle.line_io.specs.Texts.{CutShort}
use Rattle.run_frame.specs.Frame.{Answer, Ends, Onward, bare_answer, is_input_fault}
use Rattle.run_frame.specs.Turns.{Plays, PlaysOn}
use Rattle.run_frame.specs.declared.statuses.Status.{Status}
use Rattle.run_frame.specs.declared.statuses.Status.TheVariants.{BadLine, Caught, Done, NoMemory, OutputFault}
use Rattle.run_frame.specs.declared.statuses.TextName.TheVariants.{Script}
use Rattle.schedule_command.specs.declared.opening.Naming.{Naming}
use Rattle.schedule_command.specs.declared.opening.Naming.TheVariants as naming
use Rattle.schedule_command.specs.declared.opening.Opening.{Opening}
use Rattle.schedule_command.specs.declared.opening.Opening.TheVariants.{Named, Last}
use Rattle.schedule_command.specs.Schedule.{first_table, opened_from, schedule_from}

-- A run came to this status, or memory was wanting before anything was written.
abbrev pub PlaysOrLacks : (source source' : SourceState) → (sink sink' : SinkState) → (due : Input → Answer) → (held : List ℕ) → Status → Type 0
PlaysOrLacks source source' sink sink' due held NoMemory = Drew source source' false × (sink' ≡ sink)
PlaysOrLacks source source' sink sink' due held status = Plays source source' sink sink' due held status

-- A line was answered, and the rest is still due; or the sink failed; or the line is in no grammar,
-- which is told by the n-th line.
abbrev pub AnswersLine : (before now : SinkState) → (due rest : Answer) → (n : ℕ) → Result (Unit {0}) Status → Type 0
AnswersLine before now due rest n (Ok done) = Onward before now due rest
AnswersLine before now due rest n (Err OutputFault) = CutShort before now due.body
AnswersLine before now due rest n (Err status) = (status ≡ BadLine Script n) × (now ≡ before) × (due ≡ bare_answer (BadLine Script n))

-- The source was read to its end: a run that then writes this rest and ends writes all that was due.
pub record Comes (source source' : SourceState) (due : Input → Answer) (held : List ℕ) (rest : Answer) : Type 0 where
  pub drew : Drew source source' false
  pub over : source'.ended ≡ true
  pub plays : (sink sink' : SinkState) (status : Status) → is_input_fault status ≡ false → Ends sink sink' rest status → Plays source source' sink sink' due held status

-- whether the status tells that the command's end was reached
abbrev pub is_end : Status → Bool
is_end Done = true
is_end Caught = true
is_end status = false

-- P, where the command came to its end
abbrev pub OnEnd : Status → Type 0 → Type 0
OnEnd status P = is_end status ≡ true → P

-- the same, where a line ended the run
abbrev pub OnErrEnd : Result (Unit {0}) Status → Type 0 → Type 0
OnErrEnd (Ok done) P = Unit {0}
OnErrEnd (Err status) P = OnEnd status P

-- What the lines came to up to the one that names the hostile players. Nothing is written by then, whatever the sink holds.
abbrev pub Opens : Game → (source source' : SourceState) → (due : Input → Answer) → (held held' : List ℕ) → Result Opening Status → Type 0
Opens game source source' due held held' (Ok (Named hostile n)) = (sink : SinkState) → PlaysOn source source' sink sink due (schedule_from (first_table game hostile) n) held held'
Opens game source source' due held held' (Ok (Last hostile n)) = Comes source source' due held (schedule_from (first_table game hostile) n End)
Opens game source source' due held held' (Err status) = (sink : SinkState) → Plays source source' sink sink due held status × (status ≡ NoMemory → ⊥) × (is_end status ≡ false)

-- What one such line came to: where it was passed over, n lines were read by now.
abbrev pub OpensOrPasses : Game → (source source' : SourceState) → (due : Input → Answer) → (n : ℕ) → (held held' : List ℕ) → Result (Option Opening) Status → Type 0
OpensOrPasses game source source' due n held held' (Ok None) = (sink : SinkState) → PlaysOn source source' sink sink due (opened_from game n) held held'
OpensOrPasses game source source' due n held held' (Ok (Some opening)) = Opens game source source' due held held' (Ok opening)
OpensOrPasses game source source' due n held held' (Err status) = Opens game source source' due held held' (Err status)

-- What a line came to that has its end, and comes behind n lines.
abbrev pub open_by : Naming → (n : ℕ) → Result (Option Opening) Status
open_by naming.Passed n = Ok None
open_by (naming.Names hostile) n = Ok (Some (Named hostile (n + 1)))
open_by naming.Unknown n = Err (BadLine Script (n + 1))

-- What a line came to in which the input ended.
abbrev pub open_last : Naming → (n : ℕ) → Result Opening Status
open_last naming.Passed n = Err (BadLine Script (n + 1 + 1))
open_last (naming.Names hostile) n = Ok (Last hostile (n + 1))
open_last naming.Unknown n = Err (BadLine Script (n + 1))

-- P, where the line is of the grammar
abbrev pub IfKnown : Naming → Type 0 → Type 0
IfKnown naming.Passed P = P
IfKnown (naming.Names hostile) P = P
IfKnown naming.Unknown P = Unit {0}

-- the lines that were read are no more than a schedule has
abbrev pub HasFew : Opening → Type 0
HasFew (Named hostile n) = n ≤ MOST_LINES
HasFew (Last hostile n) = n ≤ MOST_LINES

-- the same, where so many were passed over before
abbrev pub HasFewSo : Result (Option Opening) Status → (n : ℕ) → Type 0
HasFewSo (Ok None) n = n < MOST_LINES
HasFewSo (Ok (Some opening)) n = HasFew opening
HasFewSo (Err status) n = Unit {0}

-- A run over an input that has ended came to this status, or memory was wanting before anything was written.
abbrev pub EndsOrLacks : (before now : SinkState) → Answer → Status → Type 0
EndsOrLacks before now due NoMemory = now ≡ before
EndsOrLacks before now due status = Ends before now due status
