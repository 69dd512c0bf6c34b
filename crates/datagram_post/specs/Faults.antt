-- Faults: the three counts of failed calls, by the history.
use Rattle.std.specs.Prelude.{ℕ, Bool, true, false, List}
use Rattle.std.specs.List.{count_by}
use Rattle.datagram_post.specs.Items.{Item, Call, Failed, BindCall, PollCall, LogCall, KeepCall, SyncCall, ReceiveCall, SendCall}

-- `bind` and `poll`
abbrev pub is_poll_call : Call → Bool
is_poll_call (BindCall addr) = true
is_poll_call PollCall = true
is_poll_call _ = false

-- `log_to`, `keep` and `sync`
abbrev pub is_keep_call : Call → Bool
is_keep_call (LogCall name) = true
is_keep_call (KeepCall bytes) = true
is_keep_call SyncCall = true
is_keep_call _ = false

-- `receive` and `send`
abbrev pub is_link_call : Call → Bool
is_link_call ReceiveCall = true
is_link_call (SendCall addr bytes) = true
is_link_call _ = false

-- whether an item is the failure of such a call
abbrev pub is_fault : (Call → Bool) → Item → Bool
is_fault is_such (Failed call) = is_such call
is_fault is_such _ = false

-- how many calls of `bind` and `poll` failed
abbrev pub poll_faults : List Item → ℕ
poll_faults items = count_by (is_fault is_poll_call) items

-- how many calls of `log_to`, `keep` and `sync` failed
abbrev pub keep_faults : List Item → ℕ
keep_faults items = count_by (is_fault is_keep_call) items

-- how many calls of `receive` and `send` failed
abbrev pub link_faults : List Item → ℕ
link_faults items = count_by (is_fault is_link_call) items
