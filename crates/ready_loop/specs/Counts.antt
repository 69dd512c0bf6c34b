-- Counts: how much was given to a player, and read of it.
use Rattle.std.specs.Prelude.{ℕ, Option, Some, None}
use Rattle.definitions.specs.Honest.{made_count}
use Rattle.loop_rules.specs.Tables.{seat_of}
use Rattle.ready_loop.specs.States.{LoopState}
use Rattle.socket_lines.specs.declared.seat.Seat.{Seat}
use Rattle.socket_lines.specs.Seats.{given_count}
use Rattle.ready_loop.specs.declared.counts.Spent.{Spent}

-- how many of so many own frames the player has
abbrev pub given_by : (made : ℕ) → Option Seat → ℕ
given_by made None = 0
given_by made (Some c) = given_count made c

abbrev pub spent_by : Option Seat → Spent
spent_by None = record { read = 0; wants = 0 }
spent_by (Some c) = record { read = c.spent; wants = c.wants }

-- how many own frames each player has, as far as is known
abbrev pub held_by : LoopState → (q : ℕ) → ℕ
held_by l q = given_by (made_count l.peer.entries) (seat_of l.table q)
