-- After: what is shown after an item.
use Rattle.std.specs.Prelude.{ℕ, ◌+◌, false, not, nat_lt, List, [], ◌∷◌, ◌++◌, Option, Some, None, filter, length, map, min, slice_get}
use Rattle.std.specs.List.{fold}
use Rattle.definitions.specs.declared.frames.TurnFrame.{TurnFrame}
use Rattle.socket_station.specs.declared.answers.Ready.{Ready}
use Rattle.socket_station.specs.declared.answers.Ready.TheVariants.{Opened, Socket as Seems}
use Rattle.socket_station.specs.Items.{Item, Call, ListenCall, LogCall, DialCall, PollCall, ReadCall, WriteCall, KeepCall, SyncCall, Listening, LogBegun, Dialled, Polled, Took, Gave, ReadNotYet, WriteNotYet, Ended, Failed, Shut, Kept, Synced}
use Rattle.socket_lines.specs.declared.limits.TheConstants.{MOST_ACCEPTED}
use Rattle.socket_lines.specs.declared.line.Line.{Line}
use Rattle.socket_lines.specs.Seats.{dials, rests}
use Rattle.socket_lines.specs.Lines.{accepted_line, dialled_line, closed, quieted, blocked, woken}
use Rattle.socket_lines.specs.Giving.{Desk, Speaker, gave}
use Rattle.peer_rules.specs.declared.phases.Phase.{Phase}
use Rattle.peer_rules.specs.declared.phases.Phase.TheVariants.{Logged, Running, KeepFault, PollFault}
use Rattle.loop_rules.specs.Settings.{Setting, speaker_of}
use Rattle.loop_rules.specs.Tables.{Table, line_of, at_line, at_seat, desk_of, with_desk}
use Rattle.loop_rules.specs.Views.{View, start, safe_frames}
use Rattle.loop_rules.specs.Hearing.{took_on}
use Rattle.loop_rules.specs.Handling.{hearer_of, sorted_out}
use Rattle.loop_rules.specs.Keeping.{kept_on}

abbrev pub in_phase : Phase → View → View
in_phase phase v = record v { phase = phase }

abbrev pub with_table : Table → View → View
with_table t v = record v { table = t }

-- a dial opened a socket for the player, whose next place is this one
abbrev pub dialled_on : (s q next : ℕ) → Table → Table
dialled_on s q next t = at_seat q dials (record t { lines = t.lines ++ dialled_line s q next ∷ [] })

-- a new socket: one beyond the most that are accepted is to be shut
abbrev pub opened_on : (s : ℕ) → Table → Table
opened_on s t = record t { lines = t.lines ++ accepted_line s (not (nat_lt t.accepted MOST_ACCEPTED)) ∷ []; accepted = min (t.accepted + 1) MOST_ACCEPTED }

-- what a poll lists
abbrev pub listed : Table → Ready → Table
listed t (Opened s) = opened_on s t
listed t (Seems s) = at_line s woken t

-- at a poll the closed sockets go, and each player may be dialled again
abbrev pub rested : Table → Table
rested t = record t { lines = filter (λ l. l.is_open) t.lines; seats = map rests t.seats }

abbrev pub polled_on : List Ready → Table → Table
polled_on list t = fold listed (rested t) list

-- so many bytes of those due were given on the line, whose last write that is
abbrev pub gave_on : Speaker → (own : Option TurnFrame) → (count : ℕ) → Desk → Desk
gave_on s own count d =
    let e = gave s own count d in
    record e { line = record e.line { is_blocked = false } }

abbrev pub gave_with : Speaker → (own : Option TurnFrame) → (count : ℕ) → Table → Option Desk → Table
gave_with s own count t None = t
gave_with s own count t (Some d) = with_desk t (gave_on s own count d)

-- the own frame at the cursor of the line, if it may be given
abbrev pub own_at : (safe : List TurnFrame) → Line → Option TurnFrame
own_at safe l = slice_get safe l.cursor

abbrev pub gave_by : Speaker → (safe : List TurnFrame) → (count : ℕ) → Table → Option Line → Table
gave_by s safe count t None = t
gave_by s safe count t (Some l) = gave_with s (own_at safe l) count t (desk_of t l)

-- what is shown after a call that failed
abbrev pub after_failed : View → Call → View
after_failed v (ListenCall addr) = in_phase PollFault v
after_failed v (LogCall name) = in_phase KeepFault v
after_failed v (DialCall q addr) = with_table (at_seat q dials v.table) v
after_failed v PollCall = in_phase PollFault v
after_failed v (ReadCall s) = with_table (at_line s closed v.table) v
after_failed v (WriteCall s) = with_table (at_line s closed v.table) v
after_failed v (KeepCall bytes) = in_phase KeepFault v
after_failed v SyncCall = in_phase KeepFault v

-- what is shown after an item
abbrev pub after : View → Item → View
after v (LogBegun name) = in_phase Logged v
after v (Listening addr) = in_phase Running v
after v (Dialled s q addr) = with_table (dialled_on s q ((hearer_of v).next q) v.table) v
after v (Polled list) = with_table (polled_on list v.table) v
after v (Took s bytes) = sorted_out (with_table (took_on (hearer_of v) s bytes v.table) v)
after v (Gave s bytes) = with_table (gave_by (speaker_of v.setting) (safe_frames v) (length bytes) v.table (line_of v.table s)) v
after v (ReadNotYet s) = with_table (at_line s quieted v.table) v
after v (WriteNotYet s) = with_table (at_line s blocked v.table) v
after v (Ended s) = with_table (at_line s closed v.table) v
after v (Shut s) = with_table (at_line s closed v.table) v
after v (Kept bytes) = kept_on v bytes
after v Synced = record v { synced = length v.kept }
after v (Failed call) = after_failed v call

-- what a history shows
abbrev pub view_after : View → List Item → View
view_after v items = fold after v items

abbrev pub view_of : Setting → List Item → View
view_of s items = view_after (start s) items
