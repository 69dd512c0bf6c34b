-- OverInput: a run over its input that ended.
use Rattle.std.proofs.Common.{◌≡◌, inr, ℕ, List, false, refl, ap, ◌∙◌}
use Rattle.station.specs.Outside.{Rose, faults_behind}
use Rattle.station.specs.Sinks.{SinkState}
use Rattle.station.specs.Sources.{SourceState}
use Rattle.line_io.specs.Inputs.{Input}
use Rattle.run_frame.specs.Frame.{Answer, Ends, OnNoMemory, Ran, is_input_fault}
use Rattle.run_frame.specs.Turns.{Plays}
use Rattle.run_frame.specs.declared.statuses.Status.{Status}
use Rattle.run_frame.specs.declared.statuses.Status.TheVariants.{InputFault, NoMemory, OutputFault}

-- it took all its memory before
pub memory_taken : (P : Type 0) (before now : SinkState) (due : Answer) (s : Status) → Ends before now due s → OnNoMemory s P
memory_taken P before now due NoMemory e = absurd e
memory_taken P before now due s e = tt

-- a run over its input that ended is a command that ran
pub ended_ran : (source shelf : Type 0) (before now : SinkState) (due : Answer) (s : Status) → Ends before now due s → (s ≡ InputFault → source) → Ran before now due false source shelf s
ended_ran source shelf before now due NoMemory e c = absurd e
ended_ran source shelf before now due InputFault e c = inr (c refl, e.1, e.0)
ended_ran source shelf before now due OutputFault e c = e
ended_ran source shelf before now due s e c = e

-- where it ended with a fault of the input, that failed
pub source_failed : (i i' : SourceState) (a b : SinkState) (due : Input → Answer) (held : List ℕ) (s : Status) → Plays i i' a b due held s → s ≡ InputFault → Rose i.faults i'.faults
source_failed i i' a b due held s p e = p.drew.counted ∙ ap (λ f. faults_behind f i.faults) (ap is_input_fault e)
