-- Moves: which are legal, and what they leave.
use Rattle.std.specs.Prelude.{ℕ, ◌+◌, ◌-◌, Bool, true, not, ◌&&◌, List, [], ◌∷◌, Option, Some, None, is_none, if◌then◌else◌, nat_lt, min, IsTrue}
use Rattle.definitions.specs.declared.world.Cell.{Cell}
use Rattle.definitions.specs.declared.world.Move.{Move}
use Rattle.definitions.specs.declared.world.Track.{Track}
use Rattle.definitions.specs.declared.world.MoveFault.{MoveFault}
use Rattle.definitions.specs.declared.world.MoveFault.TheVariants.{Outside, Wall, TooFar, StrikeOutside, StrikeFar, NoCharge}
use Rattle.definitions.specs.World.{Game, is_inside, is_wall, distance, seat_of}
use Rattle.definitions.specs.Walk.{in_reach}

-- why the strike is not allowed from this track to this target
abbrev pub strike_fault : Game → ℕ → Track → Cell → Option Cell → Option MoveFault
strike_fault game q track to None = None
strike_fault game q track to (Some c) =
    if not (is_inside game.grid c) then Some StrikeOutside
    else if nat_lt (seat_of game q).reach (distance c to) then Some StrikeFar
    else if nat_lt track.charge game.rules.cost then Some NoCharge
    else None

-- why the move is not legal from this track, by the first cause
abbrev pub move_fault : Game → ℕ → Track → Move → Option MoveFault
move_fault game q track mv =
    if not (is_inside game.grid mv.to) then Some Outside
    else if is_wall game.grid mv.to then Some Wall
    else if not (in_reach game q track.at mv.to) then Some TooFar
    else strike_fault game q track mv.to mv.strike

-- the move is legal from this track
unfoldable pub is_legal : Game → ℕ → Track → Move → Bool
is_legal game q track mv = is_none (move_fault game q track mv)

abbrev pub IsLegal : Game → ℕ → Track → Move → Type 0
IsLegal game q track mv = IsTrue (is_legal game q track mv)

-- the charge after a turn: a strike costs, and a turn without one adds 1 up to the cap
abbrev pub next_charge : Game → ℕ → Option Cell → ℕ
next_charge game charge None = min (charge + 1) game.rules.cap
next_charge game charge (Some c) = charge - game.rules.cost

-- the track after the move
abbrev pub next_track : Game → Track → Move → Track
next_track game track mv = record { at = mv.to; charge = next_charge game track.charge mv.strike }

-- the track with which the player begins
abbrev pub start_track : Game → ℕ → Track
start_track game q = record { at = (seat_of game q).start; charge = game.rules.start_charge }

-- the track after these moves
abbrev pub track_from : Game → Track → List Move → Track
track_from game track [] = track
track_from game track (mv ∷ mvs) = track_from game (next_track game track mv) mvs

-- the player's track after these moves
abbrev pub track_after : Game → ℕ → List Move → Track
track_after game q mvs = track_from game (start_track game q) mvs

-- each move is legal from the track that the moves before it give
abbrev pub are_legal_from : Game → ℕ → Track → List Move → Bool
are_legal_from game q track [] = true
are_legal_from game q track (mv ∷ mvs) = is_legal game q track mv && are_legal_from game q (next_track game track mv) mvs

-- the player's moves from its start are legal
abbrev pub AreLegal : Game → ℕ → List Move → Type 0
AreLegal game q mvs = IsTrue (are_legal_from game q (start_track game q) mvs)
