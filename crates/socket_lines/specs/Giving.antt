-- Giving: which frame goes out next on a socket, and what is shown behind some of its bytes.
use Rattle.std.specs.Prelude.{ℕ, ◌+◌, ◌<◌, ◌^◌, Bool, not, ◌||◌, ◌&&◌, nat_lt, List, [], Option, Some, None, is_some, unwrap_or, drop, slice_get, if◌then◌else◌}
use Rattle.definitions.specs.declared.frames.TurnFrame.{TurnFrame}
use Rattle.definitions.specs.Lists.{is_empty}
use Rattle.wire_frames.specs.declared.frames.Frame.{Frame}
use Rattle.wire_frames.specs.declared.frames.Frame.TheVariants.{Hello, Turn, Want}
use Rattle.wire_frames.specs.Spelling.{spelling}
use Rattle.socket_lines.specs.declared.giving.Due.{Due}
use Rattle.socket_lines.specs.declared.giving.Due.TheVariants as U
use Rattle.socket_lines.specs.declared.line.Line.{Line}
use Rattle.socket_lines.specs.declared.seat.Seat.{Seat}
use Rattle.socket_lines.specs.Seats.{reaches}

-- a socket, and the player whose it is
pub record Desk : Type 0 where
  pub line : Line
  pub seat : Seat

-- who speaks on it: the session's id and the own number
pub record Speaker : Type 0 where
  pub id : List ℕ
  pub me : ℕ

abbrev pub own_due : Option TurnFrame → Due
own_due None = U.Nothing
own_due (Some f) = U.Own f

abbrev pub want_or_own : (asked : Option ℕ) → (own : Option TurnFrame) → Due
want_or_own (Some place) own = U.Want place
want_or_own None own = own_due own

-- only on a socket with a name
abbrev pub named_due : (name : Option ℕ) → Due → Due
named_due None due = U.Nothing
named_due (Some q) due = due

abbrev pub hello_or : Option ℕ → Due → Due
hello_or (Some next) due = U.Hello next
hello_or None due = due

-- The frame that is to be begun, where the own frame at the cursor is this one, if it may go out: a HELLO first, then on a socket with a name
-- the WANT frames, and then the own frames.
abbrev pub due_on : (own : Option TurnFrame) → Desk → Due
due_on own d = hello_or d.line.hello (named_due d.line.name (want_or_own (slice_get d.seat.asks.due 0) own))

-- the frame
abbrev pub frame_of : Speaker → (shows : List ℕ) → Due → Option Frame
frame_of s shows U.Nothing = None
frame_of s shows (U.Hello next) = Some (Hello s.id s.me shows next)
frame_of s shows (U.Want place) = Some (Want place)
frame_of s shows (U.Own f) = Some (Turn f)

abbrev pub frame_due : Speaker → (own : Option TurnFrame) → Desk → Option Frame
frame_due s own d = frame_of s d.seat.link.shows (due_on own d)

abbrev pub spelled : Option Frame → List ℕ
spelled None = []
spelled (Some f) = spelling f

-- the bytes that go out next: what is left of the frame begun, or the frame that is to be begun
abbrev pub due_bytes : Speaker → (own : Option TurnFrame) → Desk → List ℕ
due_bytes s own d = if is_empty d.line.unsent then spelled (frame_due s own d) else d.line.unsent

-- the frame is begun, and is due no more
abbrev pub marked : Due → Desk → Desk
marked U.Nothing d = d
marked (U.Hello next) d = record d { line = record d.line { hello = None } }
marked (U.Want place) d = record d { seat = record d.seat { asks = record d.seat.asks { due = drop 1 d.seat.asks.due } } }
marked (U.Own f) d = record d { line = record d.line { sending = Some d.line.cursor } }

abbrev pub begun : (own : Option TurnFrame) → Desk → Desk
begun own d = if is_empty d.line.unsent then marked (due_on own d) d else d

-- a place behind which another one can be counted
abbrev pub IsPlace : Option ℕ → Type 0
IsPlace None = Unit {0}
IsPlace (Some place) = place + 1 < 2 ^ 32

-- an own frame was wholly given: the cursor rises by one, or goes where a WANT sent it
abbrev pub ended_with : Option ℕ → Desk → Desk
ended_with None d = d
ended_with (Some place) d = record {
  line = record d.line { sending = None; cursor = unwrap_or d.line.jump (place + 1); jump = None };
  seat = reaches (place + 1) d.seat;
}

-- this is left of the frame
abbrev pub left_with : List ℕ → Desk → Desk
left_with left d =
    let e = record d { line = record d.line { unsent = left } } in
    if is_empty left then ended_with d.line.sending e else e

-- behind so many of the bytes that go out next
abbrev pub gave : Speaker → (own : Option TurnFrame) → (count : ℕ) → Desk → Desk
gave s own count d = left_with (drop count (due_bytes s own d)) (begun own d)

-- ---- whether something is due at all

-- on a named socket a WANT, or one of so many own frames, from the cursor on
abbrev pub has_named : (made : ℕ) → Desk → Bool
has_named made d = is_some d.line.name && (not (is_empty d.seat.asks.due) || nat_lt d.line.cursor made)

-- something is due and not given, where so many own frames are
abbrev pub has_due : (made : ℕ) → Desk → Bool
has_due made d = not (is_empty d.line.unsent) || is_some d.line.hello || has_named made d
