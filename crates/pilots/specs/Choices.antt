-- Choices: what a bot decides for a turn, and its generator then.
use Rattle.std.specs.Prelude.{ℕ, ◌+◌, ◌-◌, ◌*◌, ◌/◌, ◌%◌, Bool, ◌&&◌, ◌==◌, List, [], ◌∷◌, Option, Some, None, min, nat_le, if◌then◌else◌}
use Rattle.rand_pcg.specs.Lcg.{Lcg}
use Rattle.definitions.specs.declared.world.Cell.{Cell}
use Rattle.definitions.specs.declared.world.Move.{Move}
use Rattle.definitions.specs.declared.world.Seat.{Seat}
use Rattle.definitions.specs.declared.world.Track.{Track}
use Rattle.definitions.specs.World.{Game, Ground, is_open, seat_of}
use Rattle.pilots.specs.Draws.{draw}

-- a bot: the session that it plays, and its generator
pub record Bot : Type 0 where
  pub game : Game
  pub generator : Lcg

-- the least of this number and of the players' reaches
abbrev pub least_from : ℕ → List Seat → ℕ
least_from r [] = r
least_from r (s ∷ seats) = least_from (min r s.reach) seats

-- the least reach of all players
unfoldable pub least_reach : Game → ℕ
least_reach game = least_from (seat_of game 0).reach game.seats

-- the cell moved by d % 3 less 1 in x, and by d / 3 less 1 in y
abbrev pub moved : Cell → (d : ℕ) → Cell
moved c d = record { x = c.x + d % 3 - 1; y = c.y + d / 3 - 1 }

-- neither of that cell's numbers is below 0, and it is inside and no wall
abbrev pub may_be_wished : Ground → Cell → (d : ℕ) → Bool
may_be_wished grid c d = nat_le 1 (c.x + d % 3) && (nat_le 1 (c.y + d / 3) && is_open grid (moved c d))

-- where a bot goes that stands on this cell: to the cell moved by the draw, or nowhere where that is outside or a wall
unfoldable pub target_of : Ground → Cell → (d : ℕ) → Cell
target_of grid c d = if may_be_wished grid c d then moved c d else c

-- the number moved by the draw less r, and then the nearest to it of those below the side
abbrev pub aimed : (side r : ℕ) → ℕ → (draw : ℕ) → ℕ
aimed side r n e = min (n + e - r) (side - 1)

-- the cell that is struck from this target: the first draw is for x, and the second for y
unfoldable pub struck_cell : Game → Cell → (across down : ℕ) → Cell
struck_cell game to across down =
    record { x = aimed game.grid.width (least_reach game) to.x across; y = aimed game.grid.height (least_reach game) to.y down }

-- a number from 0 to twice the least reach
abbrev pub drift : Game → Lcg → ℕ × Lcg
drift game g = draw (2 * least_reach game + 1) g

-- the strike from this target
abbrev pub aim : Game → Cell → Lcg → Option Cell × Lcg
aim game to g = (Some (struck_cell game to (drift game g).0 (drift game (drift game g).1).0), (drift game (drift game g).1).1)

-- the strike where 0 of 0 and 1 is drawn
abbrev pub may_aim : Game → Cell → Lcg → Option Cell × Lcg
may_aim game to g = if (draw 2 g).0 == 0 then aim game to (draw 2 g).1 else (None, (draw 2 g).1)

-- what the bot strikes from this target: nothing is drawn for it where the charge is below the cost
unfoldable pub strike_of : Game → (charge : ℕ) → Cell → Lcg → Option Cell × Lcg
strike_of game charge to g = if nat_le game.rules.cost charge then may_aim game to g else (None, g)

-- the move to this target, with this strike
abbrev pub move_to : Cell → Option Cell × Lcg → Move × Lcg
move_to to strike = (record { to = to; strike = strike.0 }, strike.1)

-- what the bot decides that stands so, and its generator then
unfoldable pub choice_of : Game → Track → Lcg → Move × Lcg
choice_of game track g =
    let d = draw 9 g in
    let to = target_of game.grid track.at d.0 in
    move_to to (strike_of game track.charge to d.1)
