-- After: what a history shows after an item.
use Rattle.std.specs.Prelude.{ℕ, true, false, ◌==◌, List, length, if◌then◌else◌}
use Rattle.std.specs.List.{fold}
use Rattle.socket_station.specs.declared.answers.Ready.{Ready}
use Rattle.socket_station.specs.declared.answers.Ready.TheVariants.{Opened, Socket as Seems}
use Rattle.socket_station.specs.Items.{Item, Call, ListenCall, LogCall, DialCall, PollCall, ReadCall, WriteCall, KeepCall, SyncCall, Listening, LogBegun, Dialled, Polled, Took, Gave, ReadNotYet, WriteNotYet, Ended, Failed, Shut, Kept, Synced}
use Rattle.deposit_rules.specs.declared.phases.DepositPhase.TheVariants.{PollFault}
use Rattle.deposit_rules.specs.declared.line.DepositLine.{DepositLine}
use Rattle.deposit_rules.specs.Lines.{blocked, closed, gave, new_line, quieted, took, woken}
use Rattle.deposit_rules.specs.Views.{Setting, View, hello, start}

-- the line is this one
abbrev pub with_line : DepositLine → View → View
with_line w v = record v { line = w }

-- the line is changed, if it is this socket's
abbrev pub on_line : (s : ℕ) → (DepositLine → DepositLine) → View → View
on_line s change v = if v.line.socket == s then with_line (change v.line) v else v

-- what a poll lists; sockets that others opened are passed over
abbrev pub listed : View → Ready → View
listed v (Opened s) = v
listed v (Seems s) = on_line s woken v

-- at a poll the logger may be dialled again
abbrev pub rested : View → View
rested v = record v { is_dialled = false }

-- a poll was made and listed this
abbrev pub polled : List Ready → View → View
polled list v = fold listed (rested v) list

-- what is shown after a call that failed; a depositor listens nowhere and keeps nothing
abbrev pub after_failed : View → Call → View
after_failed v (ListenCall addr) = v
after_failed v (LogCall name) = v
after_failed v (DialCall q addr) = record v { is_dialled = true }
after_failed v PollCall = record v { phase = PollFault }
after_failed v (ReadCall s) = on_line s closed v
after_failed v (WriteCall s) = on_line s closed v
after_failed v (KeepCall bytes) = v
after_failed v SyncCall = v

-- what is shown after an item
abbrev pub after : View → Item → View
after v (LogBegun name) = v
after v (Listening addr) = v
after v (Dialled s q addr) = record v { line = new_line s (hello v.setting); is_dialled = true }
after v (Polled list) = polled list v
after v (Took s bytes) = on_line s (took bytes) v
after v (Gave s bytes) = on_line s (gave (length bytes)) v
after v (ReadNotYet s) = on_line s quieted v
after v (WriteNotYet s) = on_line s blocked v
after v (Ended s) = on_line s closed v
after v (Shut s) = on_line s closed v
after v (Kept bytes) = v
after v Synced = v
after v (Failed call) = after_failed v call

-- what is shown after these items
abbrev pub view_after : View → List Item → View
view_after v items = fold after v items

-- what a history shows
abbrev pub view_of : Setting → List Item → View
view_of s items = view_after (start s) items
