-- Hearing: what the frames do that come on a socket.
use Rattle.std.specs.Prelude.{ℕ, ◌+◌, Bool, false, ◌&&◌, ◌==◌, List, [], ◌∷◌, ◌++◌, Option, Some, None, length, map, if◌then◌else◌}
use Rattle.std.specs.List.{fold}
use Rattle.std.specs.Str.{bytes_eq}
use Rattle.definitions.specs.declared.frames.TurnFrame.{TurnFrame}
use Rattle.definitions.specs.Logs as L
use Rattle.wire_frames.specs.declared.frames.Frame.{Frame}
use Rattle.wire_frames.specs.declared.frames.Frame.TheVariants.{Hello, Turn, Want}
use Rattle.wire_frames.specs.Streams.{Given, given_of}
use Rattle.socket_lines.specs.declared.line.Line.{Line}
use Rattle.socket_lines.specs.declared.seat.Seat.{Seat}
use Rattle.socket_lines.specs.Seats as S
use Rattle.socket_lines.specs.Seats.{spends, reaches, obeys, may_want}
use Rattle.socket_lines.specs.Lines.{is_named, lets_name, named_line, doomed, moved_to}
use Rattle.loop_rules.specs.Tables.{Table, line_of, seat_of, at_line, at_seat}

-- who hears: the session's id, and the next place of each player in the log kept
pub record Hearer : Type 0 where
  pub id : List ℕ
  pub next : ℕ → ℕ

-- ---- names

abbrev pub lets_seat_name : Option Seat → (pass : List ℕ) → Bool
lets_seat_name None pass = false
lets_seat_name (Some c) pass = S.lets_name c pass

-- the HELLO names the socket: it has the session's id, a player of the roster whose bytes are not spent, and the pass wanted of that one
abbrev pub names : Hearer → Table → Line → (id : List ℕ) → (q : ℕ) → (pass : List ℕ) → Bool
names h t l id q pass = bytes_eq id h.id && lets_seat_name (seat_of t q) pass && lets_name q l

-- the sockets of this name are to be shut
abbrev pub ousted : ℕ → Line → Line
ousted q l = if is_named q l then doomed l else l

abbrev pub with_name_free : ℕ → Table → Table
with_name_free q t = record t { lines = map (ousted q) t.lines }

-- a socket is named: the others of that name are to be shut, and its bytes count as the player's
abbrev pub named : Hearer → Table → (s : ℕ) → Line → (q from : ℕ) → Table
named h t s l q from = at_seat q (S.names l.taken from) (at_line s (named_line q from (h.next q)) (with_name_free q t))

-- the first frame on a socket
abbrev pub heard_first : Hearer → Table → (s : ℕ) → Line → Frame → Table
heard_first h t s l (Hello id q pass from) = if names h t l id q pass then named h t s l q from else at_line s doomed t
heard_first h t s l (Turn f) = at_line s doomed t
heard_first h t s l (Want place) = at_line s doomed t

-- ---- frames behind the HELLO

-- a WANT is obeyed as long as not too many were
abbrev pub obeyed : Table → (s q place : ℕ) → Option Seat → Table
obeyed t s q place None = t
obeyed t s q place (Some c) = if may_want c then at_seat q obeys (at_line s (moved_to place) t) else t

abbrev pub arrived : Table → (q : ℕ) → TurnFrame → Table
arrived t q f = record t { waiting = t.waiting ++ record { player = q; frame = f } ∷ [] }

-- a further frame on a socket named so
abbrev pub heard_named : Table → (s q : ℕ) → Frame → Table
heard_named t s q (Hello id p pass from) = at_line s doomed t
heard_named t s q (Turn f) = if L.player_of f == q then arrived t q f else at_line s doomed t
heard_named t s q (Want place) = at_seat q (reaches place) (obeyed t s q place (seat_of t q))

abbrev pub heard_by : Hearer → Table → (s : ℕ) → Line → Option ℕ → Frame → Table
heard_by h t s l None f = heard_first h t s l f
heard_by h t s l (Some q) f = heard_named t s q f

-- a frame on a socket; behind one for which it is to be shut none counts
abbrev pub heard_on : Hearer → Table → (s : ℕ) → Frame → Option Line → Table
heard_on h t s f None = t
heard_on h t s f (Some l) = if l.is_wrong then t else heard_by h t s l l.name f

abbrev pub heard : Hearer → (s : ℕ) → Table → Frame → Table
heard h s t f = heard_on h t s f (line_of t s)

-- ---- bytes

-- the socket's bytes, read so far; before a name comes they are counted on it
abbrev pub counted_on : Option ℕ → (count : ℕ) → Line → Line
counted_on None count l = record l { taken = l.taken + count }
counted_on (Some q) count l = l

abbrev pub read_on : (count : ℕ) → Given → Line → Line
read_on count g l = record (counted_on l.name count l) { reader = g.reader }

-- the bytes count for the player, once the socket is named
abbrev pub counted : Option ℕ → (count : ℕ) → Table → Table
counted None count t = t
counted (Some q) count t = at_seat q (spends count) t

-- a bad byte is a fault behind the frames before it
abbrev pub heard_all : Hearer → (s : ℕ) → Given → Table → Table
heard_all h s g t =
    let u = fold (heard h s) t g.frames in
    if g.reader.bad then at_line s doomed u else u

-- the line's bytes are read
abbrev pub read_at : (s : ℕ) → (count : ℕ) → Given → Line → Table → Table
read_at s count g l t = counted l.name count (at_line s (read_on count g) t)

abbrev pub took_with : Hearer → Table → (s : ℕ) → (bytes : List ℕ) → Option Line → Table
took_with h t s bytes None = t
took_with h t s bytes (Some l) =
    let g = given_of l.reader bytes in
    heard_all h s g (read_at s (length bytes) g l t)

-- some bytes came on a socket: their frames are heard, and those of turns wait
abbrev pub took_on : Hearer → (s : ℕ) → (bytes : List ℕ) → Table → Table
took_on h s bytes t = took_with h t s bytes (line_of t s)
