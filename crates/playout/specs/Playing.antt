-- Playing: a playout as contracts see it, and what turns make of it.
use Rattle.std.specs.Prelude.{◌≡◌, ◌<◌, ℕ, ◌+◌, List, [], ◌∷◌, Option, map, length, slice_set}
use Rattle.definitions.specs.declared.world.Move.{Move}
use Rattle.definitions.specs.declared.world.Seat.{Seat}
use Rattle.definitions.specs.Lists.{item_or}
use Rattle.definitions.specs.World.{Game, players_of}
use Rattle.definitions.specs.Moves.{IsLegal}
use Rattle.playout.specs.declared.hits.Score.{Score}
use Rattle.playout.specs.declared.standing.Standing.{Standing}
use Rattle.playout.specs.Hits.{no_score, plus, move_of, own_score}
use Rattle.playout.specs.Lockstep.{lockstep, standing_after}

-- how many turns were played, those of all players and own ones, and each player's track and score, in order
pub record Played : Type 0 where
  pub turns : ℕ
  pub standings : List Standing

-- the standing of no player
abbrev pub no_standing : Standing
no_standing = record { track = record { at = record { x = 0; y = 0 }; charge = 0 }; score = no_score }

-- the player's track and score
abbrev pub standing_of : Played → ℕ → Standing
standing_of p q = item_or p.standings q no_standing

-- at a player's start
abbrev pub seated : Game → Seat → Standing
seated game seat = record { track = record { at = seat.start; charge = game.rules.start_charge }; score = no_score }

-- nothing was played yet
abbrev pub fresh : Game → Played
fresh game = record { turns = 0; standings = map (seated game) game.seats }

-- these standings, of which the first is that of player q, after a turn in which the players make these moves
abbrev pub all_after : Game → List Move → ℕ → List Standing → List Standing
all_after game moves q [] = []
all_after game moves q (s ∷ ss) = standing_after game moves q s ∷ all_after game moves (q + 1) ss

-- a turn of all players was played
abbrev pub after_turn : Game → List Move → Played → Played
after_turn game moves p = record { turns = p.turns + 1; standings = all_after game moves 0 p.standings }

-- the standing with these hits too
abbrev pub scored : Standing → Score → Standing
scored s score = record { track = s.track; score = plus s.score score }

-- a player's own turn was counted against the moves of others that are there
abbrev pub after_own_turn : Game → ℕ → Move → List (Option Move) → Played → Played
after_own_turn game me own others p = record {
  turns = p.turns + 1;
  standings = slice_set p.standings me (scored (standing_of p me) (own_score game me own others));
}

-- one move for each player, legal from where the player stands now
pub record AreLegalNow (game : Game) (p : Played) (moves : List Move) : Type 0 where
  pub one_each : length moves ≡ players_of game
  pub legal : (q : ℕ) → q < players_of game → IsLegal game q (standing_of p q).track (move_of moves q)

-- all turns played were turns of all players, by these lists of moves: each player stands and has scored as lockstep says
pub record IsLockstep (game : Game) (moves : List (List Move)) (p : Played) : Type 0 where
  pub one_each : length p.standings ≡ players_of game
  pub each : (q : ℕ) → q < players_of game → standing_of p q ≡ lockstep game moves p.turns q
