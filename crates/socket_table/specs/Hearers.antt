-- Hearers: whose seats stand in a table.
use Rattle.std.specs.Prelude.{ℕ, ◌<◌, List}
use Rattle.definitions.specs.Lists.{EachIs}
use Rattle.socket_lines.specs.declared.seat.Seat.{Seat}

-- each seat is that of one of so many players
abbrev pub ArePlayers : (players : ℕ) → List Seat → Type 0
ArePlayers players seats = EachIs (λ c. c.link.player < players) seats
