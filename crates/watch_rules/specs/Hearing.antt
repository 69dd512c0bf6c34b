-- Hearing: what the bytes do that come on a socket.
use Rattle.std.specs.Prelude.{ℕ, ◌-◌, Bool, false, not, ◌&&◌, ◌==◌, List, Option, Some, None, length, slice_get, if◌then◌else◌}
use Rattle.std.specs.Str.{bytes_eq}
use Rattle.rosters.specs.declared.roster.Link.{Link}
use Rattle.wire_frames.specs.declared.frames.Frame.{Frame}
use Rattle.wire_frames.specs.declared.frames.Frame.TheVariants.{Hello, Turn, Want}
use Rattle.wire_frames.specs.declared.frames.FedWhat.{FedWhat}
use Rattle.wire_frames.specs.declared.frames.FedWhat.TheVariants as what
use Rattle.wire_frames.specs.Reading.{Step, fed_step}
use Rattle.socket_lines.specs.declared.line.Line.{Line}
use Rattle.socket_lines.specs.Lines.{doomed, unnamed_room}
use Rattle.socket_list.specs.Sockets.{Sockets, at_line, line_of, with_name_free, fed_line, greeted_line}
use Rattle.log_streams.specs.Streams.{Stream, count_at, room_at, room_of, took_of}
use Rattle.watch_rules.specs.Views.{View}

-- the sockets are these
abbrev pub with_sockets : Sockets → View → View
with_sockets t v = record v { sockets = t }

-- ---- names

-- the pass is the one that is wanted of the player, of whose log more bytes may be taken
abbrev pub lets_name : Option Link → Option Stream → (pass : List ℕ) → Bool
lets_name None s pass = false
lets_name (Some link) None pass = false
lets_name (Some link) (Some s) pass = bytes_eq pass link.wants && not (room_of s == 0)

-- the HELLO names the socket: it has the session's id, a player that is not closed, and the pass
-- wanted of that one
abbrev pub names : View → (id : List ℕ) → (q : ℕ) → (pass : List ℕ) → Bool
names v id q pass = bytes_eq id v.setting.game.id && lets_name (slice_get v.setting.roster.links q) (slice_get v.streams q) pass

-- the WANT that answers: from the first byte on that there is not of the player's log
abbrev pub answer_to : View → (q : ℕ) → Frame
answer_to v q = Want (count_at (slice_get v.streams q))

-- a socket is named: the others of that name are to be shut, and the WANT is due
abbrev pub named : View → (s q : ℕ) → View
named v s q = with_sockets (at_line s (greeted_line q (answer_to v q)) (with_name_free q v.sockets)) v

-- a rule asks to shut the socket
abbrev pub to_shut : (s : ℕ) → View → View
to_shut s v = with_sockets (at_line s doomed v.sockets) v

-- this is the first frame on a socket: only a HELLO that names it isn't shut
abbrev pub heard_first : View → (s : ℕ) → Frame → View
heard_first v s (Hello id q pass next) = if names v id q pass then named v s q else to_shut s v
heard_first v s (Turn f) = to_shut s v
heard_first v s (Want place) = to_shut s v

-- what its reader found of a first frame
abbrev pub heard : View → (s : ℕ) → FedWhat → View
heard v s what.More = v
heard v s (what.Bad place) = to_shut s v
heard v s (what.Whole f) = heard_first v s f

-- ---- bytes

-- Bytes came on a socket without a name: they go on with its first frame. No more are taken than a
-- HELLO has, so none is left behind one.
abbrev pub greeted : View → (s : ℕ) → (count : ℕ) → Step → View
greeted v s count step = heard (with_sockets (at_line s (fed_line count step.reader) v.sockets) v) s step.fed.what

-- bytes came on a socket of this name: they go on with the player's log
abbrev pub logged : View → (q : ℕ) → (bytes : List ℕ) → View
logged v q bytes = record v { streams = took_of v.setting.game q bytes v.streams }

-- bytes came on the socket of this line, which has this name or none
abbrev pub took_by : View → (s : ℕ) → (bytes : List ℕ) → Line → Option ℕ → View
took_by v s bytes l None = greeted v s (length bytes) (fed_step l.reader bytes)
took_by v s bytes l (Some q) = logged v q bytes

-- the same, if the socket has a line
abbrev pub took_with : View → (s : ℕ) → (bytes : List ℕ) → Option Line → View
took_with v s bytes None = v
took_with v s bytes (Some l) = took_by v s bytes l l.name

-- bytes came on a socket
abbrev pub took_on : View → (s : ℕ) → (bytes : List ℕ) → View
took_on v s bytes = took_with v s bytes (line_of v.sockets s)

-- ---- limits

-- how many bytes may be taken on the socket of this line, which has this name or none
abbrev pub room_by : View → Line → Option ℕ → ℕ
room_by v l None = unnamed_room l
room_by v l (Some q) = room_at (slice_get v.streams q)

-- how many bytes may be taken on a socket: before its HELLO as many as that may still have, then
-- what is left of its player's log
abbrev pub room_on : View → Line → ℕ
room_on v l = room_by v l l.name
