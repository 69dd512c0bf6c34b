-- Faults: which failed calls stand behind the end of a run.
use Rattle.std.specs.Prelude.{Bool, true, false, List}
use Rattle.socket_station.specs.Faults.{is_keep_call, is_poll_call}
use Rattle.socket_station.specs.Items.{Item, Call, ListenCall}
use Rattle.run_frame.specs.FailedCalls.{EndsBy, FailsNone}
use Rattle.loop_ends.specs.declared.ends.Ended.{Ended}
use Rattle.loop_ends.specs.declared.ends.Ended.TheVariants as E

-- `listen` alone
abbrev pub is_listen_call : Call → Bool
is_listen_call (ListenCall addr) = true
is_listen_call _ = false

-- no call of the log failed, nor one of listening and polling
abbrev pub FailsNeither : List Item → Type 0
FailsNeither items = FailsNone is_keep_call items × FailsNone is_poll_call items

-- A run ends by a keep fault only after a failed call of the log, and by a poll fault only after a failed call of listening or polling, which is
-- the last call; and it ends otherwise only where none of these failed. So it blames the outside for no fault that never came, and passes none over.
abbrev pub StandsByFaults : Ended → List Item → Type 0
StandsByFaults E.KeepFault items = EndsBy is_keep_call items
StandsByFaults E.PollFault items = EndsBy is_poll_call items
StandsByFaults E.Done items = FailsNeither items
StandsByFaults (E.Caught f) items = FailsNeither items
StandsByFaults (E.OwnMove turn fault) items = FailsNeither items
StandsByFaults E.GaveUp items = FailsNeither items
