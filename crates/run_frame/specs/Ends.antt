-- What a run has written at its very end, the line of a refusal with it.
use Rattle.std.specs.Prelude.{◌≡◌, ◌⊎◌, ℕ, Bool, List, ◌++◌}
use Rattle.station.specs.Sinks.{SinkState, after_bytes}
use Rattle.line_io.specs.Texts.{CutShort}
use Rattle.run_frame.specs.Frame.{Answer, MayBeFront}
use Rattle.run_frame.specs.Statuses.{refusal_of}
use Rattle.run_frame.specs.declared.statuses.Status.{Status}
use Rattle.run_frame.specs.declared.statuses.Status.TheVariants.{NoMemory, InputFault, OutputFault}

-- The status stays and its line was written, or the sink failed in it, which is the status then.
abbrev pub Refuses : (before now : SinkState) → Status → (result : Status) → Type 0
Refuses before now status result =
    ((result ≡ status) × (now ≡ after_bytes before (refusal_of status))) ⊎ ((result ≡ OutputFault) × CutShort before now (refusal_of status))

-- what is written in all about an answer: its body, and the line of its status
abbrev pub told_by : Answer → List ℕ
told_by answer = answer.body ++ refusal_of answer.status

-- A text that a run may be about to write: all that is due, by the whole input or by the part of it before a fault of the source;
-- the line for want of memory, behind what may be written before it; or the line for a fault of the shelf, which comes before all else.
abbrev pub IsToBeWritten : (whole cut : Answer) → (late : Bool) → (source shelf : Type 0) → List ℕ → Type 0
IsToBeWritten whole cut late source shelf text =
    (text ≡ told_by whole)
    ⊎ ((source × (cut.status ≡ InputFault) × (text ≡ told_by cut))
    ⊎ (((front : List ℕ) × MayBeFront late whole.body front × (text ≡ front ++ refusal_of NoMemory))
    ⊎ (shelf × (text ≡ refusal_of InputFault))))

-- What a run has written when it ends with this status: all that is due and the status's line, or the part of it that the
-- status tells of. `whole` is due by the whole input, `cut` by the part of it that was read before a fault of the source; `late` says
-- that memory is taken after the first byte too, and `source` and `shelf` that they failed.
abbrev pub Finished : (before now : SinkState) → (whole cut : Answer) → (late : Bool) → (source shelf : Type 0) → Status → Type 0
Finished before now whole cut late source shelf NoMemory = (front : List ℕ) × MayBeFront late whole.body front × (now ≡ after_bytes before (front ++ refusal_of NoMemory))
Finished before now whole cut late source shelf InputFault =
    (shelf × (now ≡ after_bytes before (refusal_of InputFault))) ⊎ (source × (cut.status ≡ InputFault) × (now ≡ after_bytes before (told_by cut)))
Finished before now whole cut late source shelf OutputFault = (text : List ℕ) × IsToBeWritten whole cut late source shelf text × CutShort before now text
Finished before now whole cut late source shelf status = (status ≡ whole.status) × (now ≡ after_bytes before (told_by whole))
