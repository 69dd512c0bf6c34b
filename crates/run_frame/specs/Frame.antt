-- The frame of every command: what is to be written and how it is to end, and what a run makes of that.
use Rattle.std.specs.Prelude.{◌≡◌, ◌⊎◌, ℕ, Bool, true, false, List, [], ◌++◌, if◌then◌else◌}
use Rattle.station.specs.Sinks.{SinkState, after_bytes}
use Rattle.line_io.specs.Texts.{CutShort, Underway}
use Rattle.run_frame.specs.declared.statuses.Status.{Status}
use Rattle.run_frame.specs.declared.statuses.Status.TheVariants.{Done, NoMemory, InputFault, OutputFault, BadLine}
use Rattle.run_frame.specs.declared.statuses.TextName.TheVariants.{Script}

-- What a command writes and how it ends, where the sink and the shelf don't fail and memory suffices. The line of a refusal is
-- no part of the body.
pub record Answer : Type 0 where
  pub body : List ℕ
  pub status : Status

-- the answer with a text before it
abbrev pub after_text : List ℕ → Answer → Answer
after_text text answer = record { body = text ++ answer.body; status = answer.status }

-- the answer that is this status alone
abbrev pub bare_answer : Status → Answer
bare_answer status = record { body = []; status = status }

-- Of a command that reads a script, the answer from the line on that is the n-th: a line outside the grammar ends the run; else what is
-- written about the line stands before the rest.
abbrev pub answer_by : (bad : Bool) → (n : ℕ) → (text : List ℕ) → (rest : Answer) → Answer
answer_by bad n text rest = if bad then bare_answer (BadLine Script n) else after_text text rest

-- A run goes on: some of what was due was written, and the rest is still due.
pub record Onward (before now : SinkState) (due rest : Answer) : Type 0 where
  pub text : Underway before now due.body rest.body
  pub status : rest.status ≡ due.status

-- A run over its input ends with this status, all its memory taken, where this was due: all of it is written, or the sink failed
-- in it.
abbrev pub Ends : (before now : SinkState) → Answer → Status → Type 0
Ends before now due NoMemory = ⊥
Ends before now due OutputFault = CutShort before now due.body
Ends before now due status = (now ≡ after_bytes before due.body) × (status ≡ due.status)

-- Why a run may end so that ends nowhere but at the end of its command. Want of memory and faults have their causes outside.
abbrev pub EndCause : Status → Type 0
EndCause Done = Unit {0}
EndCause NoMemory = Unit {0}
EndCause OutputFault = Unit {0}
EndCause status = ⊥

-- What may have been written of this text where memory is wanting: nothing, where all memory is taken before the first byte; else a
-- front of it. `late` says that memory is taken after the first byte too.
abbrev pub MayBeFront : (late : Bool) → (text front : List ℕ) → Type 0
MayBeFront false text front = front ≡ []
MayBeFront true text front = (rest : List ℕ) × (text ≡ front ++ rest)

-- Memory was wanting: what may have been written then was written.
abbrev pub Lacked : (late : Bool) → (before now : SinkState) → (text : List ℕ) → Type 0
Lacked false before now text = now ≡ before
Lacked true before now text = (front : List ℕ) × MayBeFront true text front × (now ≡ after_bytes before front)

-- A command has ended with this status, but for the line of a refusal. Before its first byte memory may be wanting, or the
-- shelf may fail: nothing is written in either case, unless memory is taken late. `source` and `shelf` say that they failed.
abbrev pub Ran : (before now : SinkState) → Answer → (late : Bool) → (source shelf : Type 0) → Status → Type 0
Ran before now due late source shelf NoMemory = Lacked late before now due.body
Ran before now due late source shelf InputFault = (shelf × (now ≡ before)) ⊎ (source × (InputFault ≡ due.status) × (now ≡ after_bytes before due.body))
Ran before now due late source shelf OutputFault = CutShort before now due.body
Ran before now due late source shelf status = (now ≡ after_bytes before due.body) × (status ≡ due.status)

-- whether the status tells of a fault of the source or the shelf
abbrev pub is_input_fault : Status → Bool
is_input_fault InputFault = true
is_input_fault status = false

-- P, where the command came to its end
abbrev pub OnDone : Status → Type 0 → Type 0
OnDone Done P = P
OnDone status P = Unit {0}

-- P, where memory was wanting
abbrev pub OnNoMemory : Status → Type 0 → Type 0
OnNoMemory NoMemory P = P
OnNoMemory status P = Unit {0}
