-- Sessions: what holds of each, and the one that its parts make.
use Rattle.std.specs.Prelude.{◌≡◌, ℕ, ◌*◌, ◌≤◌, List, length, map, IsTrue, ◌==◌, if◌then◌else◌}
use Rattle.definitions.specs.declared.world.Cell.{Cell}
use Rattle.definitions.specs.declared.world.Seat.{Seat}
use Rattle.definitions.specs.Lists.{EachIs}
use Rattle.definitions.specs.declared.limits.TheConstants.{FARTHEST_REACH, FEWEST_PLAYERS, LAST_VERSION, MOST_AHEAD, MOST_CHARGE, MOST_PLAYERS, MOST_PLAYERS_AT_FIRST, MOST_SPEED, MOST_TURNS, MOST_TURNS_AT_FIRST, MOST_TURNS_OF_ALL, WIDEST_BLAST, WIDEST_SIDE, WIDEST_SIDE_AT_FIRST}
use Rattle.definitions.specs.World as world
use Rattle.definitions.specs.World.{Ground, Game, is_open, players_of}
use Rattle.grid_world.specs.declared.rules.Rules.{Rules}
use Rattle.grid_world.specs.Grids.{IsGrid}

-- the rules as a game has them
abbrev pub rules_of : Rules → world.Rules
rules_of r = record { speed = r.speed; reach = r.reach; blast = r.blast; start_charge = r.start_charge; cap = r.cap; cost = r.cost }

-- the game of these parts
abbrev pub game_of : (version : ℕ) → List ℕ → Ground → world.Rules → (turns ahead : ℕ) → List Seat → Game
game_of version id grid rules turns ahead seats = record {
  version = version;
  id = id;
  grid = grid;
  rules = rules;
  turns = turns;
  ahead = ahead;
  seats = seats;
}

-- the cells at which these players start
abbrev pub starts_of : List Seat → List Cell
starts_of seats = map (λ s. s.start) seats

-- the most cells of a side of the grid, by the version
abbrev pub widest_side : ℕ → ℕ
widest_side version = if version == 1 then WIDEST_SIDE_AT_FIRST else WIDEST_SIDE

-- the most turns, by the version
abbrev pub most_turns : ℕ → ℕ
most_turns version = if version == 1 then MOST_TURNS_AT_FIRST else MOST_TURNS

-- the most players, by the version
abbrev pub most_players : ℕ → ℕ
most_players version = if version == 1 then MOST_PLAYERS_AT_FIRST else MOST_PLAYERS

-- a player walks and strikes within the limits
pub record IsSeat (seat : Seat) : Type 0 where
  pub speed : (1 ≤ seat.speed) × (seat.speed ≤ MOST_SPEED)
  pub reach : seat.reach ≤ FARTHEST_REACH

-- the player walks and strikes as the rules say
pub record GoesByTheRules (rules : world.Rules) (seat : Seat) : Type 0 where
  pub speed : seat.speed ≡ rules.speed
  pub reach : seat.reach ≡ rules.reach

-- what holds besides of a session of version 1: players commit one turn ahead, and all walk and strike alike
pub record IsOfVersion1 (game : Game) : Type 0 where
  pub width : game.grid.width ≤ WIDEST_SIDE_AT_FIRST
  pub height : game.grid.height ≤ WIDEST_SIDE_AT_FIRST
  pub turns : game.turns ≤ MOST_TURNS_AT_FIRST
  pub ahead : game.ahead ≡ 1
  pub players : players_of game ≤ MOST_PLAYERS_AT_FIRST
  pub seats : EachIs (GoesByTheRules game.rules) game.seats

-- a session that a text may say
pub record IsSession (game : Game) : Type 0 where
  pub version : (1 ≤ game.version) × (game.version ≤ LAST_VERSION)
  pub id : length game.id ≡ 32
  pub grid : IsGrid game.grid
  pub speed : (1 ≤ game.rules.speed) × (game.rules.speed ≤ MOST_SPEED)
  pub reach : game.rules.reach ≤ FARTHEST_REACH
  pub blast : game.rules.blast ≤ WIDEST_BLAST
  pub start_charge : game.rules.start_charge ≤ game.rules.cap
  pub cap : game.rules.cap ≤ MOST_CHARGE
  pub cost : game.rules.cost ≤ MOST_CHARGE
  pub turns : (1 ≤ game.turns) × (game.turns ≤ MOST_TURNS)
  pub ahead : (1 ≤ game.ahead) × (game.ahead ≤ MOST_AHEAD)
  pub players : (FEWEST_PLAYERS ≤ players_of game) × (players_of game ≤ MOST_PLAYERS)
  pub turns_of_all : players_of game * game.turns ≤ MOST_TURNS_OF_ALL
  pub seats : EachIs IsSeat game.seats
  pub starts : EachIs (λ s. IsTrue (is_open game.grid s.start)) game.seats
  pub of_version_1 : game.version ≡ 1 → IsOfVersion1 game
