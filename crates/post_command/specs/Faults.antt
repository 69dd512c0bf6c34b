-- Faults: which failed calls stand behind the end of a run.
use Rattle.std.specs.Prelude.{◌≡◌, Bool, true, List, [], ◌∷◌, ◌++◌}
use Rattle.datagram_post.specs.Faults.{keep_faults, poll_faults, is_keep_call, is_poll_call}
use Rattle.datagram_post.specs.Items.{Item, Call, Failed}
use Rattle.loop_ends.specs.declared.ends.Ended.{Ended}
use Rattle.loop_ends.specs.declared.ends.Ended.TheVariants as E

-- the last item is the failure of such a call
abbrev pub EndsBy : (Call → Bool) → List Item → Type 0
EndsBy is_such items = (before : List Item) × (call : Call) × (items ≡ before ++ Failed call ∷ []) × (is_such call ≡ true)

-- no call of the log failed, nor one of binding and polling
abbrev pub FailsNeither : List Item → Type 0
FailsNeither items = (keep_faults items ≡ 0) × (poll_faults items ≡ 0)

-- A run ends by a keep fault only after a failed call of the log, and by a poll fault only after a failed
-- call of binding or polling, which is the last call. It ends otherwise only where none of these failed. So it
-- blames the outside for no fault that never came, and passes none over. Receives and sends that fail end no run.
abbrev pub StandsByFaults : Ended → List Item → Type 0
StandsByFaults E.KeepFault items = EndsBy is_keep_call items
StandsByFaults E.PollFault items = EndsBy is_poll_call items
StandsByFaults E.Done items = FailsNeither items
StandsByFaults (E.Caught f) items = FailsNeither items
StandsByFaults (E.OwnMove turn fault) items = FailsNeither items
StandsByFaults E.GaveUp items = FailsNeither items
