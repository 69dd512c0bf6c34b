-- Runs: what is promised of a run of a command, by the command's law.
use Rattle.std.specs.Prelude.{◌≡◌, ◌⊎◌, ℕ, List, ◌++◌, true}
use Rattle.station.specs.Outside.{Rose}
use Rattle.station.specs.Since.{since, Grows}
use Rattle.station.specs.Shelves.{ShelfState}
use Rattle.station.specs.Sinks.{SinkState}
use Rattle.station.specs.Sources.{SourceState}
use Rattle.line_io.specs.Files.{AreContents, Calls, Contents}
use Rattle.line_io.specs.Inputs.{AtEnd, AtFault, Input, MayFollow, input_of}
use Rattle.run_frame.specs.Ends.{Finished, Refuses}
use Rattle.run_frame.specs.Frame.{OnNoMemory}
use Rattle.run_frame.specs.Law.{HasCause, Law, ReadsFor}
use Rattle.run_frame.specs.Outside.{CountsFaults, IsApart, Outside, answered_by, with_output}
use Rattle.run_frame.specs.declared.statuses.Status.{Status}
use Rattle.run_frame.specs.declared.statuses.Status.TheVariants.{NoMemory}

-- the bytes that a run read of its input
abbrev pub read_by : (before after : Outside) → List ℕ
read_by before after = since before.input.seen after.input.seen

-- The input was read on.
pub record ReadsOn (before after : SourceState) : Type 0 where
  -- where it shows all its bytes, they are the same
  pub same : after.whole ≡ before.whole
  -- it gave more bytes or none
  pub grows : Grows before.seen after.seen

-- The files may hold this, and this may stand behind the bytes read of the input.
pub record MayBe (after : Outside) (calls : Calls) (contents : Contents) (behind : List ℕ) : Type 0 where
  -- the files give what was answered to the run's calls
  pub given : AreContents contents calls
  -- nothing stands behind an input that answered its end
  pub follows : MayFollow after.input.ended behind

-- P of whatever the files may hold and may stand behind the bytes read
abbrev pub ForAny : (after : Outside) → Calls → (P : Contents → List ℕ → Type 0) → Type 0
ForAny after calls P = (contents : Contents) (behind : List ℕ) → MayBe after calls contents behind → P contents behind

-- There is something that they may be: no promise for any of them is empty.
pub record IsPossible (after : Outside) (calls : Calls) : Type 0 where
  pub contents : Contents
  pub behind : List ℕ
  pub may : MayBe after calls contents behind

-- What the run wrote, and how it ended: as is due for the files and for the bytes read of the input, whatever
-- stands behind them. Where the source failed, it is what is due for the whole lines read before. Where a file
-- failed, the input is left alone, and where the sink failed, a front of all that was written: so nothing is
-- written before that was read by which it is due. Where memory is wanting, nothing was written, or a front of
-- what is due where the command takes memory late.
abbrev pub Writes : Law → (before after : Outside) → Status → Contents → (behind : List ℕ) → Type 0
Writes law before after status contents behind =
    Finished before.output after.output
    (law.answer contents (input_of AtEnd (read_by before after ++ behind))) (law.answer contents (input_of AtFault (read_by before after))) law.late
    (Rose before.input.faults after.input.faults) (Rose before.shelf.faults after.shelf.faults × (after.input ≡ before.input)) status

-- It did what a command does that makes calls of the station or the post, and then wrote the line of its
-- status, if that has one.
pub record Played (law : Law) (contents : Contents) (before after : Outside) (status : Status) : Type 0 where
  -- the output and the status before that line
  pub output : SinkState
  pub ended : Status
  pub plays : law.plays contents before (with_output after output) ended
  pub line : Refuses output after.output ended status

-- It made no call of the station or the post, and wrote what is due; or it did what a command does that
-- makes some.
abbrev pub Acts : Law → (before after : Outside) → Status → Contents → (behind : List ℕ) → Type 0
Acts law before after status contents behind = (IsApart before after × Writes law before after status contents behind) ⊎ Played law contents before after status

-- When the input is left alone.
pub record LeavesAlone (law : Law) (before after : Outside) (calls : Calls) (status : Status) : Type 0 where
  -- where nothing is due by it
  pub over : ForAny after calls (λ contents behind. law.over contents → after.input ≡ before.input)
  -- where memory is wanting, by a command that takes it first
  pub no_memory : OnNoMemory status (law.first ≡ true → after.input ≡ before.input)

-- When the run comes to its end.
pub record Completes (law : Law) (before after : Outside) (calls : Calls) (status : Status) : Type 0 where
  -- where all is good, and neither input, files nor output failed, only memory can be wanting, and only before
  -- any call of the station or the post
  pub done : ForAny after calls (λ contents behind. law.good contents (input_of AtEnd (read_by before after ++ behind)) (answered_by after) →
      ¬ Rose before.input.faults after.input.faults → ¬ Rose before.shelf.faults after.shelf.faults → ¬ Rose before.output.faults after.output.faults →
      law.ends status ⊎ ((status ≡ NoMemory) × IsApart before after))
  -- at its end the input was read to its end, where it is read
  pub over : law.through status after.input.ended

-- What is promised of a run by this law that ended with this status.
pub record Runs (law : Law) (before after : Outside) (status : Status) : Type 0 where
  -- its calls for each of its files, as they were answered
  pub calls : Calls
  -- it made these calls, each where it was due, after which the shelf stood so
  pub read : ShelfState
  pub files : ReadsFor law before.shelf read calls
  -- and no others but those for what it gives on
  pub asked : law.asks read after.shelf
  -- it read the input on, and changed nothing of what the input shows of itself
  pub input : ReadsOn before.input after.input
  -- there is something that the files may hold and that may stand behind the bytes read
  pub possible : IsPossible after calls
  -- whatever they are, what it did and wrote is due by what it read
  pub text : ForAny after calls (Acts law before after status)
  -- the status has its cause in the files and the input
  pub caused : ForAny after calls (λ contents behind. HasCause law contents (input_of AtEnd (read_by before after ++ behind)) status)
  -- memory is wanting only where some is taken
  pub memory : OnNoMemory status (law.memory ≡ true)
  -- a fault is counted exactly where it is told
  pub faults : CountsFaults before after status
  -- the input is left alone where nothing is due by it
  pub untouched : LeavesAlone law before after calls status
  -- where all is good it comes to its end
  pub complete : Completes law before after calls status
  -- what is behind its answers, whatever the files hold and the input is
  pub meant : (contents : Contents) (input : Input) → law.meant contents input

-- The same before the line of a refusal is written: whatever becomes of that line, the run is as promised.
abbrev pub Works : Law → (before after : Outside) → Status → Type 0
Works law before after status = (output : SinkState) (told : Status) → Refuses after.output output status told → Runs law before (with_output after output) told
