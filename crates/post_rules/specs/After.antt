-- After: what is shown after an item.
use Rattle.std.specs.Prelude.{◌+◌, true, List, length}
use Rattle.std.specs.List.{fold}
use Rattle.datagram_post.specs.Items.{Item, Call, BindCall, LogCall, PollCall, ReceiveCall, SendCall, KeepCall, SyncCall, Bound, LogBegun, Polled, Took, ReceiveNotYet, Gave, SendNotYet, Failed, Kept, Synced}
use Rattle.peer_rules.specs.declared.phases.Phase.{Phase}
use Rattle.peer_rules.specs.declared.phases.Phase.TheVariants.{Logged, Running, KeepFault, PollFault}
use Rattle.post_rules.specs.Views.{View, polled}
use Rattle.post_rules.specs.Hearing.{took, received}
use Rattle.post_rules.specs.Keeping.{kept_on}

-- the same view in another phase
abbrev pub in_phase : Phase → View → View
in_phase phase v = record v { phase = phase }

-- one more datagram of the batch was handed to `send`, whatever became of it
abbrev pub sent_one : View → View
sent_one v = record v { settling = record v.settling { sent = v.settling.sent + 1 } }

-- all that is kept is synced
abbrev pub stored : View → View
stored v = record v { synced = length v.kept; settling = record v.settling { is_stored = true } }

-- what is shown after a call that failed
abbrev pub after_failed : View → Call → View
after_failed v (BindCall addr) = in_phase PollFault v
after_failed v (LogCall name) = in_phase KeepFault v
after_failed v PollCall = in_phase PollFault v
after_failed v ReceiveCall = received v
after_failed v (SendCall addr bytes) = sent_one v
after_failed v (KeepCall bytes) = in_phase KeepFault v
after_failed v SyncCall = in_phase KeepFault v

-- what is shown after an item
abbrev pub after : View → Item → View
after v (LogBegun name) = in_phase Logged v
after v (Bound addr) = in_phase Running v
after v Polled = polled v
after v (Took bytes) = took bytes v
after v ReceiveNotYet = received v
after v (Gave addr bytes) = sent_one v
after v (SendNotYet addr bytes) = sent_one v
after v (Kept bytes) = kept_on v bytes
after v Synced = stored v
after v (Failed call) = after_failed v call

-- what a history shows
abbrev pub view_after : View → List Item → View
view_after v items = fold after v items
