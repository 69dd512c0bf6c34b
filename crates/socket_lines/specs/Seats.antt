-- Seats: what is known of another player, whichever sockets it had.
use Rattle.std.specs.Prelude.{ℕ, ◌+◌, ◌-◌, Bool, true, false, not, ◌&&◌, max, min, nat_lt, List, [], ◌∷◌, ◌++◌, Some, None, if◌then◌else◌}
use Rattle.std.specs.Str.{bytes_eq}
use Rattle.rosters.specs.declared.roster.Link.{Link}
use Rattle.socket_lines.specs.declared.limits.TheConstants.{MOST_BYTES, MOST_WANTS}
use Rattle.socket_lines.specs.declared.seat.Seat.{Seat}
use Rattle.socket_lines.specs.Asks.{is_asked}

abbrev pub new_seat : (most : ℕ) → Link → Seat
new_seat most link = record { link = link; spent = 0; wants = 0; given = 0; asks = record { most = most; last = None; due = [] }; is_dialled = false }

-- how many bytes may still be read of it
abbrev pub room_of : Seat → ℕ
room_of t = MOST_BYTES - t.spent

-- nothing more is read of it, and it is dialled no more
abbrev pub is_spent : Seat → Bool
is_spent t = not (nat_lt t.spent MOST_BYTES)

-- the pass is the one that is wanted of the player, and its bytes are not spent
abbrev pub lets_name : Seat → (pass : List ℕ) → Bool
lets_name t pass = bytes_eq pass t.link.wants && not (is_spent t)

-- a further WANT is obeyed
abbrev pub may_want : Seat → Bool
may_want t = nat_lt t.wants MOST_WANTS

-- how many of so many own frames it has, as far as is known
abbrev pub given_count : (made : ℕ) → Seat → ℕ
given_count made t = min t.given made

-- it lacks one of so many own frames
abbrev pub lacks : (made : ℕ) → Seat → Bool
lacks made t = nat_lt (given_count made t) made

abbrev pub spends : ℕ → Seat → Seat
spends count t = record t { spent = t.spent + count }

-- the own frames below the place count as given: it asked for this one
abbrev pub reaches : ℕ → Seat → Seat
reaches place t = record t { given = max t.given place }

-- no place is due any more
abbrev pub with_no_asks : Seat → Seat
with_no_asks t = record t { asks = record t.asks { due = [] } }

-- it named a socket of which so many bytes were taken, and asked for the place: what was due on another one is not due on this one
abbrev pub names : (taken place : ℕ) → Seat → Seat
names taken place t = with_no_asks (reaches place (spends taken t))

abbrev pub obeys : Seat → Seat
obeys t = record t { wants = t.wants + 1 }

-- the place is to be asked for
abbrev pub is_asked_for : ℕ → Seat → Seat
is_asked_for place t = record t { asks = record t.asks { last = Some place; due = t.asks.due ++ place ∷ [] } }

-- it is asked to go on from its next place, once for each
abbrev pub asks : ℕ → Seat → Seat
asks place t = if is_asked t.asks place then t else is_asked_for place t

abbrev pub dials : Seat → Seat
dials t = record t { is_dialled = true }

abbrev pub rests : Seat → Seat
rests t = record t { is_dialled = false }
