-- Licence: when the loop may wait, point by point.
use Rattle.std.specs.Prelude.{ℕ, Bool, false, not, ◌&&◌, ◌||◌, ◌==◌, nat_lt, Option, Some, None, length, is_some, is_none, IsTrue}
use Rattle.std.specs.List.{list_all, list_any}
use Rattle.definitions.specs.Lists.{is_empty}
use Rattle.definitions.specs.Needs.{needs, may_choose}
use Rattle.definitions.specs.Findings.{is_clean}
use Rattle.socket_lines.specs.declared.line.Line.{Line}
use Rattle.socket_lines.specs.declared.seat.Seat.{Seat}
use Rattle.socket_lines.specs.Seats.{is_spent, lacks}
use Rattle.socket_lines.specs.Giving.{Desk, has_due}
use Rattle.peer_rules.specs.Phases.{is_running}
use Rattle.loop_rules.specs.Tables.{Table, asks_shut, is_served, desk_of}
use Rattle.loop_rules.specs.Views.{View, made_kept}
use Rattle.loop_rules.specs.Keeping.{own_next}

-- Reading. Each open socket was read until nothing was there, after its opening and after the last poll that listed it.
abbrev pub is_read : Line → Bool
is_read l = not l.is_open || l.is_quiet

abbrev pub all_is_read : Table → Bool
all_is_read t = list_all is_read t.lines

-- Giving. On each open socket all that is due was given, or the last write was refused after the last poll that listed the socket.
abbrev pub has_due_at : (made : ℕ) → Option Desk → Bool
has_due_at made None = false
has_due_at made (Some d) = has_due made d

abbrev pub has_due_on : (made : ℕ) → Table → Line → Bool
has_due_on made t l = has_due_at made (desk_of t l)

abbrev pub is_served_out : (made : ℕ) → Table → Line → Bool
is_served_out made t l = not l.is_open || l.is_blocked || not (has_due_on made t l)

abbrev pub all_is_given : (made : ℕ) → Table → Bool
all_is_given made t = list_all (is_served_out made t) t.lines

-- Handling. Every frame that came was handled, and no socket is open that a rule or a limit asks to shut.
abbrev pub all_is_shut : Table → Bool
all_is_shut t = list_all (λ l. not (asks_shut t l)) t.lines

abbrev pub all_is_handled : Table → Bool
all_is_handled t = is_empty t.waiting && all_is_shut t

-- Waiting for someone. A frame of another player is missed, or own bytes wait: a player lacks an own frame, or something is due on an open
-- named socket and is not wholly given, or a frame is given in part on one without a name.
abbrev pub has_bytes : (made : ℕ) → Table → Line → Bool
has_bytes made t l = l.is_open && (not (is_empty l.unsent) || (is_some l.name && has_due_on made t l))

abbrev pub bytes_wait : (made : ℕ) → Table → Bool
bytes_wait made t = list_any (lacks made) t.seats || list_any (has_bytes made t) t.lines

abbrev pub is_waited_for : View → Bool
is_waited_for v = not (is_empty (needs v.setting.game v.setting.me v.kept)) || bytes_wait (made_kept v) v.table

-- Dialling. Each player above the own one, unless its bytes are spent, has an open socket or was dialled since the last poll.
abbrev pub is_reached : (me : ℕ) → Table → Seat → Bool
is_reached me t c = not (nat_lt me c.link.player) || is_spent c || is_served t c.link.player || c.is_dialled

abbrev pub all_are_reached : (me : ℕ) → Table → Bool
all_are_reached me t = list_all (is_reached me t) t.seats

-- Playing. No move may be chosen and no own frame made, the log has no finding, and all of it is kept and synced.
abbrev pub all_is_played : View → Bool
all_is_played v =
    not (may_choose v.setting.game v.setting.me v.kept) && is_none (own_next v) && is_clean v.setting.game v.kept && (v.synced == length v.kept)

-- a poll is licensed
abbrev pub is_licensed : View → Bool
is_licensed v =
    is_running v.phase && all_is_read v.table && all_is_given (made_kept v) v.table && all_is_handled v.table && is_waited_for v
    && all_are_reached v.setting.me v.table && all_is_played v

abbrev pub IsLicensed : View → Type 0
IsLicensed v = IsTrue (is_licensed v)
