-- What a text says, line by line, and the first rule of a session text that it breaks.
--
-- Each line is first asked for its form, which is rule S1, and then for its other rules in their order.
use Rattle.std.specs.Prelude.{ℕ, zero, suc, ◌+◌, ◌*◌, Bool, not, List, [], ◌∷◌, Option, Some, None, Result, Ok, Err, nat_le, is_none, ◌==◌, ◌&&◌, ◌||◌, if◌then◌else◌, codes, true}
use Rattle.sha2.specs.Sha256.{sha256}
use Rattle.definitions.specs.declared.world.Cell.{Cell}
use Rattle.definitions.specs.declared.world.Seat.{Seat}
use Rattle.definitions.specs.declared.sessions.SessionRule.TheVariants.{S1, S2, S3, S4, S5, S6, S7, S8, S9, S10, S11, S12}
use Rattle.definitions.specs.declared.limits.TheConstants.{FARTHEST_REACH, FEWEST_PLAYERS, LAST_VERSION, MOST_AHEAD, MOST_CHARGE, MOST_SPEED, MOST_TURNS_OF_ALL, WIDEST_BLAST}
use Rattle.definitions.specs.World as world
use Rattle.definitions.specs.World.{Ground, Game, has_cell, is_inside, is_before}
use Rattle.grid_world.specs.declared.fault.SessionFault.{SessionFault}
use Rattle.grid_world.specs.declared.fault.SessionFault.TheVariants.{At}
use Rattle.grid_world.specs.Sessions.{game_of, most_players, most_turns, starts_of, widest_side}
use Rattle.text_lines.specs.Lines.{ended_lines_of, is_bare, is_within, one_of, two_of, three_of, three_or_five_of}
use Rattle.text_lines.specs.Reading.{◌>>=◌, ends_at, fault_of, keeps, line_at}

-- line 1: the version
unfoldable pub version_at : List (List ℕ) → Result (ℕ × List (List ℕ)) SessionFault
version_at lines = do
  version ← line_at (At 1 S1) (one_of (codes "playout")) lines
  keeps (At 1 S2) (is_within 1 LAST_VERSION version.0) version

-- line 2: how wide and how high the grid is
unfoldable pub sides_at : (version : ℕ) → List (List ℕ) → Result ((ℕ × ℕ) × List (List ℕ)) SessionFault
sides_at version lines = do
  sides ← line_at (At 2 S1) (two_of (codes "grid")) lines
  keeps (At 2 S3) (is_within 1 (widest_side version) sides.0.0 && is_within 1 (widest_side version) sides.0.1) sides

-- line 3: speed, reach and blast
unfoldable pub steps_at : List (List ℕ) → Result ((ℕ × ℕ × ℕ) × List (List ℕ)) SessionFault
steps_at lines = do
  steps ← line_at (At 3 S1) (three_of (codes "rules")) lines
  keeps (At 3 S4) (is_within 1 MOST_SPEED steps.0.0 && (nat_le steps.0.1 FARTHEST_REACH && nat_le steps.0.2 WIDEST_BLAST)) steps

-- line 4: the start charge, the cap and the cost
unfoldable pub charges_at : List (List ℕ) → Result ((ℕ × ℕ × ℕ) × List (List ℕ)) SessionFault
charges_at lines = do
  charges ← line_at (At 4 S1) (three_of (codes "charge")) lines
  keeps (At 4 S5) (nat_le charges.0.0 MOST_CHARGE && (nat_le charges.0.1 MOST_CHARGE && (nat_le charges.0.2 MOST_CHARGE && nat_le charges.0.0 charges.0.1))) charges

-- line 5: how many turns are played
unfoldable pub turns_at : (version : ℕ) → List (List ℕ) → Result (ℕ × List (List ℕ)) SessionFault
turns_at version lines = do
  turns ← line_at (At 5 S1) (one_of (codes "turns")) lines
  keeps (At 5 S6) (is_within 1 (most_turns version) turns.0) turns

-- how many turns ahead players commit: one in version 1, and otherwise as line 6 says
unfoldable pub ahead_at : (version : ℕ) → List (List ℕ) → Result (ℕ × List (List ℕ)) SessionFault
ahead_at version lines = if version == 1 then Ok (1, lines) else (do
  ahead ← line_at (At 6 S1) (one_of (codes "ahead")) lines
  keeps (At 6 S10) (is_within 1 MOST_AHEAD ahead.0) ahead)

-- the number of the line that says how many players there are
abbrev pub players_line : (version : ℕ) → ℕ
players_line version = if version == 1 then 6 else 7

-- the number of the first player's line
abbrev pub first_player_line : (version : ℕ) → ℕ
first_player_line version = players_line version + 1

-- the last line before those of the players: how many players there are, and that they don't have too many turns together
unfoldable pub players_at : (version turns : ℕ) → List (List ℕ) → Result (ℕ × List (List ℕ)) SessionFault
players_at version turns lines = do
  players ← line_at (At (players_line version) S1) (one_of (codes "players")) lines
  few ← keeps (At (players_line version) S7) (is_within FEWEST_PLAYERS (most_players version) players.0) players
  keeps (At (players_line version) S12) (nat_le (few.0 * turns) MOST_TURNS_OF_ALL) few

-- what the lines before those of the players say: the version, the grid, still without walls, the rules, the turns, how many
-- turns ahead players commit, and how many players there are
pub record Head : Type 0 where
  pub version : ℕ
  pub grid : Ground
  pub rules : world.Rules
  pub turns : ℕ
  pub ahead : ℕ
  pub players : ℕ

-- the lines before those of the players, and the lines behind them
unfoldable pub head_at : List (List ℕ) → Result (Head × List (List ℕ)) SessionFault
head_at lines = do
  version ← version_at lines
  sides ← sides_at version.0 version.1
  steps ← steps_at sides.1
  charges ← charges_at steps.1
  turns ← turns_at version.0 charges.1
  ahead ← ahead_at version.0 turns.1
  players ← players_at version.0 turns.0 ahead.1
  Ok (
    record {
      version = version.0;
      grid = record { width = sides.0.0; height = sides.0.1; walls = [] };
      rules = record { speed = steps.0.0; reach = steps.0.1; blast = steps.0.2; start_charge = charges.0.0; cap = charges.0.1; cost = charges.0.2 };
      turns = turns.0;
      ahead = ahead.0;
      players = players.0;
    },
    players.1,
  )

abbrev pub cell_at : ℕ → ℕ → Cell
cell_at x y = record { x = x; y = y }

-- a player may have this speed and reach of its own, if it has: they are within the limits, and not those of the rules
abbrev pub may_be_own : world.Rules → Option (ℕ × ℕ) → Bool
may_be_own rules None = true
may_be_own rules (Some own) =
    is_within 1 MOST_SPEED own.0 && (nat_le own.1 FARTHEST_REACH && not ((own.0 == rules.speed) && (own.1 == rules.reach)))

-- the seat of a player that starts at this cell, with its own speed and reach, if it has, and otherwise those of the rules
abbrev pub seat_by : world.Rules → Cell → Option (ℕ × ℕ) → Seat
seat_by rules start None = record { start = start; speed = rules.speed; reach = rules.reach }
seat_by rules start (Some own) = record { start = start; speed = own.0; reach = own.1 }

-- the line of player q: where the player starts, and in version 2 perhaps its own speed and reach
unfoldable pub seat_at : Head → ℕ → List (List ℕ) → Result (Seat × List (List ℕ)) SessionFault
seat_at head q lines = do
  line ← line_at (At (first_player_line head.version + q) S1) (three_or_five_of (codes "player")) lines
  formed ← keeps (At (first_player_line head.version + q) S1) (is_none line.0.1 || not (head.version == 1)) line
  placed ← keeps (At (first_player_line head.version + q) S8) ((formed.0.0.0 == q) && is_inside head.grid (cell_at formed.0.0.1 formed.0.0.2)) formed
  keeps (At (first_player_line head.version + q) S11) (may_be_own head.rules placed.0.1) (seat_by head.rules (cell_at placed.0.0.1 placed.0.0.2) placed.0.1, placed.1)

-- the lines of so many players, the first of whom has the number q
unfoldable pub seats_at : Head → ℕ → ℕ → List (List ℕ) → Result (List Seat × List (List ℕ)) SessionFault
seats_at head zero q lines = Ok ([], lines)
seats_at head (suc k) q lines = do
  first ← seat_at head q lines
  others ← seats_at head k (suc q) first.1
  Ok (first.0 ∷ others.0, others.1)

-- the cell comes after the wall before it, if there is one
abbrev pub is_after : Option Cell → Cell → Bool
is_after None c = true
is_after (Some d) c = is_before d c

-- the cell that a wall's line says, on line n
abbrev pub wall_said : Ground → List Cell → Option Cell → ℕ → Option (ℕ × ℕ) → Result Cell SessionFault
wall_said grid starts before n None = Err (At n S1)
wall_said grid starts before n (Some c) = do
  wall ← keeps (At n S8) (is_inside grid (cell_at c.0 c.1)) (cell_at c.0 c.1)
  keeps (At n S9) (is_after before wall && not (has_cell starts wall)) wall

-- the wall on line n, which comes after the wall before it and stands on no start
unfoldable pub wall_at : Ground → List Cell → Option Cell → ℕ → List ℕ → Result Cell SessionFault
wall_at grid starts before n line = wall_said grid starts before n (two_of (codes "wall") line)

-- the walls from line n on, and `end`
unfoldable pub walls_at : Ground → List Cell → List (List ℕ) → Option Cell → ℕ → Result (List Cell) SessionFault
walls_at grid starts [] before n = Err (At n S1)
walls_at grid starts (line ∷ lines) before n = if is_bare (codes "end") line then ends_at (At (suc n) S1) lines else (do
  wall ← wall_at grid starts before n line
  others ← walls_at grid starts lines (Some wall) (suc n)
  Ok (wall ∷ others))

-- what a text says, but for its digest
pub record Said : Type 0 where
  pub version : ℕ
  pub grid : Ground
  pub rules : world.Rules
  pub turns : ℕ
  pub ahead : ℕ
  pub seats : List Seat

-- what these lines say, or the first of them at fault and the first of its rules that it breaks
unfoldable pub said_by : List (List ℕ) → Result Said SessionFault
said_by lines = do
  head ← head_at lines
  seats ← seats_at head.0 head.0.players 0 head.1
  walls ← walls_at head.0.grid (starts_of seats.0) seats.1 None (first_player_line head.0.version + head.0.players)
  Ok (record {
    version = head.0.version;
    grid = record { width = head.0.grid.width; height = head.0.grid.height; walls = walls };
    rules = head.0.rules;
    turns = head.0.turns;
    ahead = head.0.ahead;
    seats = seats.0;
  })

-- the first faulty line of a text, and the first of its rules that it breaks
unfoldable pub session_fault : List ℕ → Option SessionFault
session_fault text = fault_of (said_by (ended_lines_of text))

-- the session that a text says, or the first faulty line of it and the first of its rules that it breaks
unfoldable pub game_at : List ℕ → Result Game SessionFault
game_at text = do
  said ← said_by (ended_lines_of text)
  Ok (game_of said.version (sha256 text) said.grid said.rules said.turns said.ahead said.seats)
