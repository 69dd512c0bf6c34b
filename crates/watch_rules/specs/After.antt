-- After: what a history shows after an item.
use Rattle.std.specs.Prelude.{ℕ, List, length}
use Rattle.std.specs.List.{fold}
use Rattle.socket_station.specs.Items.{Item, Call, ListenCall, LogCall, DialCall, PollCall, ReadCall, WriteCall, KeepCall, SyncCall, Listening, LogBegun, Dialled, Polled, Took, Gave, ReadNotYet, WriteNotYet, Ended, Failed, Shut, Kept, Synced}
use Rattle.socket_lines.specs.declared.line.Line.{Line}
use Rattle.socket_lines.specs.Lines.{closed, quieted, blocked}
use Rattle.socket_list.specs.Sockets.{at_line, gave_line, polled_on}
use Rattle.watch_rules.specs.declared.phases.WatchPhase.{WatchPhase}
use Rattle.watch_rules.specs.declared.phases.WatchPhase.TheVariants.{Running, PollFault}
use Rattle.watch_rules.specs.Views.{Setting, View, start}
use Rattle.watch_rules.specs.Hearing.{took_on, with_sockets}

-- the phase is this one
abbrev pub in_phase : WatchPhase → View → View
in_phase phase v = record v { phase = phase }

-- the line of a socket is changed
abbrev pub on_line : (s : ℕ) → (Line → Line) → View → View
on_line s change v = with_sockets (at_line s change v.sockets) v

-- what is shown after a call that failed; a logger keeps nothing and dials nobody
abbrev pub after_failed : View → Call → View
after_failed v (ListenCall addr) = in_phase PollFault v
after_failed v (LogCall name) = v
after_failed v (DialCall q addr) = v
after_failed v PollCall = in_phase PollFault v
after_failed v (ReadCall s) = on_line s closed v
after_failed v (WriteCall s) = on_line s closed v
after_failed v (KeepCall bytes) = v
after_failed v SyncCall = v

-- what is shown after an item
abbrev pub after : View → Item → View
after v (LogBegun name) = v
after v (Listening addr) = in_phase Running v
after v (Dialled s q addr) = v
after v (Polled list) = with_sockets (polled_on list v.sockets) v
after v (Took s bytes) = took_on v s bytes
after v (Gave s bytes) = on_line s (gave_line (length bytes)) v
after v (ReadNotYet s) = on_line s quieted v
after v (WriteNotYet s) = on_line s blocked v
after v (Ended s) = on_line s closed v
after v (Shut s) = on_line s closed v
after v (Kept bytes) = v
after v Synced = v
after v (Failed call) = after_failed v call

-- what is shown after these items
abbrev pub view_after : View → List Item → View
view_after v items = fold after v items

-- what a history shows
abbrev pub view_of : Setting → List Item → View
view_of s items = view_after (start s) items
