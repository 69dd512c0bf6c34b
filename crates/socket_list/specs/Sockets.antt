-- Sockets: the sockets of whoever listens, and what each change makes of them.
use Rattle.std.specs.Prelude.{◌≡◌, ℕ, ◌+◌, ◌==◌, not, nat_lt, List, [], ◌∷◌, ◌++◌, Option, Some, drop, filter, find, map, min, slice_get}
use Rattle.std.specs.List.{fold}
use Rattle.wire_frames.specs.declared.frames.Frame.{Frame}
use Rattle.wire_frames.specs.Reading.{Reading}
use Rattle.wire_frames.specs.Spelling.{spelling}
use Rattle.socket_station.specs.declared.answers.Ready.{Ready}
use Rattle.socket_station.specs.declared.answers.Ready.TheVariants.{Opened, Socket as Seems}
use Rattle.socket_lines.specs.declared.limits.TheConstants.{MOST_ACCEPTED}
use Rattle.socket_lines.specs.declared.line.Line.{Line}
use Rattle.socket_lines.specs.Lines.{accepted_line, woken}
use Rattle.loop_rules.specs.Tables.{in_lines}
use Rattle.loop_rules.specs.Hearing.{ousted}

-- what contracts see of a list of sockets
pub record Sockets : Type 0 where
  -- in the order in which they were opened; one that is closed stays until the next poll
  pub lines : List Line
  -- how many were accepted, up to the most that are: a later one is to be shut
  pub accepted : ℕ

-- the line of a socket, if it has one
abbrev pub line_of : Sockets → ℕ → Option Line
line_of t s = find (λ l. l.socket == s) t.lines

-- the line of a socket is changed
abbrev pub at_line : ℕ → (Line → Line) → Sockets → Sockets
at_line s change t = record t { lines = in_lines s change t.lines }

-- the sockets of this name are to be shut
abbrev pub with_name_free : ℕ → Sockets → Sockets
with_name_free q t = record t { lines = map (ousted q) t.lines }

-- ---- what comes and goes on a socket

-- so many bytes of a first frame were read on it, and its reader came so far
abbrev pub fed_line : (count : ℕ) → Reading → Line → Line
fed_line count r l = record l { taken = l.taken + count; reader = r }

-- it has a name, and this frame is due on it
abbrev pub greeted_line : (q : ℕ) → Frame → Line → Line
greeted_line q f l = record l { name = Some q; unsent = spelling f }

-- so many of the bytes due were given
abbrev pub gave_line : (count : ℕ) → Line → Line
gave_line count l = record l { unsent = drop count l.unsent }

-- ---- polls

-- a new socket: one beyond the most that are accepted is to be shut
abbrev pub opened_on : (s : ℕ) → Sockets → Sockets
opened_on s t = record { lines = t.lines ++ accepted_line s (not (nat_lt t.accepted MOST_ACCEPTED)) ∷ []; accepted = min (t.accepted + 1) MOST_ACCEPTED }

-- a poll listed this
abbrev pub listed : Sockets → Ready → Sockets
listed t (Opened s) = opened_on s t
listed t (Seems s) = at_line s woken t

-- at a poll the closed sockets go
abbrev pub rested : Sockets → Sockets
rested t = record t { lines = filter (λ l. l.is_open) t.lines }

-- a poll was made and listed this
abbrev pub polled_on : List Ready → Sockets → Sockets
polled_on list t = fold listed (rested t) list

-- the line at this place is of this socket
abbrev pub IsAt : Sockets → (place socket : ℕ) → Type 0
IsAt t k s = (l : Line) × (slice_get t.lines k ≡ Some l) × (l.socket ≡ s)
